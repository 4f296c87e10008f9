-- Twin runs of the plane: a cycle contracts, close runs stay close, and so do their forces.
use Rattle.std.proofs.Common.{◌≡◌, ◌^◌, zero, suc, List, [], ◌∷◌, Option, Some, None, refl, sym, ap, ap₂, subst, ◌∙◌, arith, ℤ, pos, negsuc, ◌+ℤ◌, ◌-ℤ◌, ◌*ℤ◌, ◌≤ℤ◌}
use Rattle.std.proofs.lemmas.Int.{ints}
use Rattle.std.proofs.lemmas.List.Elements.{All-head, All-tail}
use Rattle.std.specs.Prelude.{unsigned_abs}
use Rattle.dp_form.proofs.Ring.{var, num, ◌⊕◌, ◌⊗◌, ring}
use Rattle.dp_form.proofs.Order.{square_nonneg, mul_nonneg}
use Rattle.dp_fixed.specs.Scale.{full_scale}
use Rattle.dp_fixed.specs.Division.{floor_of}
use Rattle.dp_form.specs.Vectors.{dot, scale}
use Rattle.dp_form.specs.Form.{form, plane_form}
use Rattle.dp_form.specs.Axes.{along, across}
use Rattle.dp_form.proofs.Expansion.{form_scale}
use Rattle.dp_plant.specs.declared.cert.Cert.{Cert}
use Rattle.dp_plant.specs.declared.cert.Parts.{Parts}
use Rattle.dp_plant.specs.declared.cert.Parts.TheVariants.{Three, Five}
use Rattle.dp_plant.specs.declared.gains.Gains.{Gains}
use Rattle.dp_plant.specs.declared.limits.Box3.{Box3}
use Rattle.dp_plant.specs.declared.limits.Setpoint.{Setpoint}
use Rattle.dp_plant.specs.declared.place.Place.{Place}
use Rattle.dp_plant.specs.declared.plane.Component.{Component}
use Rattle.dp_plant.specs.declared.plane.PlaneState.{PlaneState}
use Rattle.dp_plant.specs.Law.{asked_surge, asked_sway, issued_of}
use Rattle.dp_plant.specs.Observer.{component_next, north_of, east_of, plane_next, wave_next}
use Rattle.dp_plant.specs.Ranges.{IsPair}
use Rattle.dp_plant.specs.Vectors.{entry, along_north, along_east, zero_place}
use Rattle.dp_cert.specs.Bound.{bound}
use Rattle.dp_cert.specs.States.{gap, gap_form, matrix_of, states_of, IsStateOf}
use Rattle.dp_cert.specs.TwinRuns.{AreWithin, AreMeasuredWithin, TwinCycle, IsTwinCycle, step_in, first_after, second_after, kept_gap, AreClose, CycleContracts, DemandsStayClose, SameIsClose, RunsStayClose, ForcesStayClose, TwinForcesStayClose}
use Rattle.dp_cert.proofs.Near.{size_near}
use Rattle.dp_cert.proofs.Demands.{demand_below, axes_below}
use Rattle.dp_cert.proofs.Steps.{step_contracts}
use Rattle.dp_cert.proofs.CertifiedLoops.{observer_of, HasFilterOf, CertifiedLoop}
use Rattle.dp_cert.proofs.PlaneMoves.{IsComponentOf, component_is, north_gap, east_gap, push_at, plane_moves, surge_move, sway_move, issued_split, issued_rest}
use Rattle.dp_cert.proofs.Runs.{bound_kept, kept_enough, kept_small, kept_low, force_below}

-- ---- without a wave filter no waves come up
pub north_is : (parts : Parts) (x : PlaneState) → IsStateOf parts x → IsComponentOf parts (north_of x)
north_is (Three l) x h = ap (λ (p : Place). p.north) h.wave_q
north_is (Five l) x h = tt

pub east_is : (parts : Parts) (x : PlaneState) → IsStateOf parts x → IsComponentOf parts (east_of x)
east_is (Three l) x h = ap (λ (p : Place). p.east) h.wave_q
east_is (Five l) x h = tt

zero_sum : (p q off : ℤ) → floor_of ((pos 0 *ℤ p +ℤ pos 0 *ℤ q) +ℤ pos 0 *ℤ off) full_scale ≡ pos 0
zero_sum p q off = ap (λ (z : ℤ). floor_of z full_scale) (ring (p ∷ (q ∷ (off ∷ []))) (num (pos 0) ⊗ var 0 ⊕ num (pos 0) ⊗ var 1 ⊕ num (pos 0) ⊗ var 2) (num (pos 0)) tt)

wave_still : (by_p by_q by_place : ℤ) (x : Component) (off : ℤ) → by_p ≡ pos 0 → by_q ≡ pos 0 → by_place ≡ pos 0 → wave_next by_p by_q by_place x off ≡ pos 0
wave_still by_p by_q by_place x off e f h =
    ap (λ (z : ℤ). wave_next z by_q by_place x off) e ∙ ap (λ (z : ℤ). wave_next (pos 0) z by_place x off) f ∙ ap (λ (z : ℤ). wave_next (pos 0) (pos 0) z x off) h
    ∙ zero_sum x.wave_p x.wave_q off

same_place : (a b : ℤ) → a ≡ pos 0 → b ≡ pos 0 → let made : Place = record { north = a; east = b } in made ≡ zero_place
same_place a b e f = ap₂ (λ (m n : ℤ). let made : Place = record { north = m; east = n } in made) e f

pub stays_of : (g : Gains) (parts : Parts) → HasFilterOf g parts → (x : PlaneState) (y : Option Place) (push : List ℤ) (pair : ℤ × ℤ) → IsStateOf parts x → IsStateOf parts (plane_next g x y push pair)
stays_of g parts f x None push pair h = h
stays_of g (Five l) f x (Some y) push pair h = tt
stays_of g (Three l) f x (Some y) push pair h =
    let north = north_of x in let east = east_of x in
    let to_north = (y.north -ℤ north.eta) -ℤ north.wave_q in let to_east = (y.east -ℤ east.eta) -ℤ east.wave_q in
    record {
      wave_p = same_place _ _ (wave_still (entry g.wave 0) (entry g.wave 1) (entry g.k1 0) north to_north (f.wave 0) (f.wave 1) (f.k1 0)) (wave_still (entry g.wave 0) (entry g.wave 1) (entry g.k1 0) east to_east (f.wave 0) (f.wave 1) (f.k1 0));
      wave_q = same_place _ _ (wave_still (entry g.wave 2) (entry g.wave 3) (entry g.k1 1) north to_north (f.wave 2) (f.wave 3) (f.k1 1)) (wave_still (entry g.wave 2) (entry g.wave 3) (entry g.k1 1) east to_east (f.wave 2) (f.wave 3) (f.k1 1));
    }

-- ---- a cycle with two places
same_gap : (p : List (List ℤ)) (a a' b b' c c' d d' : List ℤ) → a ≡ c → a' ≡ c' → b ≡ d → b' ≡ d' → plane_form p (gap c c') (gap d d') ≡ plane_form p (gap a a') (gap b b')
same_gap p a a' b b' c c' d d' e e' f f' =
    sym (ap (λ (z : List ℤ). plane_form p (gap z a') (gap b b')) e ∙ ap (λ (z : List ℤ). plane_form p (gap c z) (gap b b')) e'
    ∙ ap (λ (z : List ℤ). plane_form p (gap c c') (gap z b')) f ∙ ap (λ (z : List ℤ). plane_form p (gap c c') (gap d z)) f')

-- V of the difference after it
abbrev between : Gains → Parts → Box3 → Setpoint → ℤ × ℤ → List ℤ → PlaneState → PlaneState → Place → Place → ℤ
between g parts box setpoint pair wind x x' y y' =
    let t = along_north pair (push_at g box setpoint pair wind x) in let t' = along_north pair (push_at g box setpoint pair wind x') in
    let u = along_east pair (push_at g box setpoint pair wind x) in let u' = along_east pair (push_at g box setpoint pair wind x') in
    plane_form (matrix_of parts)
    (gap (states_of parts (component_next g (north_of x) y.north t)) (states_of parts (component_next g (north_of x') y'.north t')))
    (gap (states_of parts (component_next g (east_of x) y.east u)) (states_of parts (component_next g (east_of x') y'.east u')))

plane_contracts : (g : Gains) (c : Cert) (parts : Parts) → CertifiedLoop g c parts → (box : Box3) (setpoint : Setpoint) (pair : ℤ × ℤ) (wind : List ℤ) (x x' : PlaneState) (n s : ℤ) → pos 0 ≤ℤ n → pos 0 ≤ℤ s →
    IsPair pair → (y y' : Place) → AreWithin s y y' → IsStateOf parts x → IsStateOf parts x' → gap_form parts x x' ≤ℤ (n *ℤ n) →
    (full_scale *ℤ full_scale *ℤ between g parts box setpoint pair wind x x' y y') ≤ℤ (((c.rho *ℤ n +ℤ c.b *ℤ s) +ℤ full_scale *ℤ c.r) *ℤ ((c.rho *ℤ n +ℤ c.b *ℤ s) +ℤ full_scale *ℤ c.r))
plane_contracts g c parts k box setpoint pair wind x x' n s n0 s0 short y y' w h h' v =
    let t = along_north pair (push_at g box setpoint pair wind x) in let t' = along_north pair (push_at g box setpoint pair wind x') in
    let u = along_east pair (push_at g box setpoint pair wind x) in let u' = along_east pair (push_at g box setpoint pair wind x') in
    let most = (c.rho *ℤ n +ℤ c.b *ℤ s) +ℤ full_scale *ℤ c.r in
    subst (λ (z : ℤ). (full_scale *ℤ full_scale *ℤ z) ≤ℤ (most *ℤ most))
    (same_gap (matrix_of parts) _ _ _ _ _ _ _ _
    (component_is g parts (north_of x) y.north t (north_is parts x h)) (component_is g parts (north_of x') y'.north t' (north_is parts x' h'))
    (component_is g parts (east_of x) y.east u (east_is parts x h)) (component_is g parts (east_of x') y'.east u' (east_is parts x' h')))
    (step_contracts (observer_of g parts) (matrix_of parts) c.rho c.b c.r k.loop pair.0 pair.1 short.short
    (states_of parts (north_of x)) (states_of parts (north_of x')) (states_of parts (east_of x)) (states_of parts (east_of x')) y.north y'.north y.east y'.east t t' u u' n s n0 s0
    (plane_moves g parts box setpoint pair wind x x') (size_near s (y.north -ℤ y'.north) w.north) (size_near s (y.east -ℤ y'.east) w.east) v)

pub cycle_contracts : (g : Gains) (c : Cert) → CertifiedLoop g c c.parts → CycleContracts g c
cycle_contracts g c k t x x' y y' n s n0 s0 short w h h' v = plane_contracts g c c.parts k t.box t.setpoint t.pair t.wind x x' n s n0 s0 short y y' w h h' v

-- ---- the demands
surge_stays : (g : Gains) (c : Cert) (parts : Parts) → CertifiedLoop g c parts → (box : Box3) (setpoint : Setpoint) (pair : ℤ × ℤ) (wind : List ℤ) (x x' : PlaneState) (n : ℤ) → pos 0 ≤ℤ n →
    IsPair pair → gap_form parts x x' ≤ℤ (n *ℤ n) →
    (full_scale *ℤ pos (unsigned_abs (issued_of (asked_surge g setpoint pair wind x) (entry box.lo 0) (entry box.hi 0) -ℤ issued_of (asked_surge g setpoint pair wind x') (entry box.lo 0) (entry box.hi 0)))) ≤ℤ (entry c.g 0 *ℤ n +ℤ full_scale)
surge_stays g c parts k box setpoint pair wind x x' n n0 short v =
    let o = observer_of g parts in
    let axis = along pair.0 pair.1 (north_gap parts x x') (east_gap parts x x') in
    let below = axes_below (matrix_of parts) k.loop.nonneg full_scale pair.0 pair.1 n (north_gap parts x x') (east_gap parts x x') short.short v in
    let z = asked_surge g setpoint pair wind x in let z' = asked_surge g setpoint pair wind x' in
    let lo = entry box.lo 0 in let hi = entry box.hi 0 in
    demand_below full_scale (entry c.g 0) n (dot o.held0 axis) (dot o.bias axis) (form (matrix_of parts) axis) (issued_of z lo hi) (issued_of z' lo hi) _ _ k.loop.scale_positive k.demands.low0 n0 below.0
    (k.demands.held0 axis) (subst (λ (f : ℤ). (f *ℤ f) ≤ℤ (entry c.g 0 *ℤ entry c.g 0 *ℤ form (matrix_of parts) axis)) (k.loop.bias_surge axis) (k.demands.free0 axis))
    (surge_move g parts box setpoint pair wind x x') (issued_split z z' lo hi) (issued_rest z z' lo hi)

sway_stays : (g : Gains) (c : Cert) (parts : Parts) → CertifiedLoop g c parts → (box : Box3) (setpoint : Setpoint) (pair : ℤ × ℤ) (wind : List ℤ) (x x' : PlaneState) (n : ℤ) → pos 0 ≤ℤ n →
    IsPair pair → gap_form parts x x' ≤ℤ (n *ℤ n) →
    (full_scale *ℤ pos (unsigned_abs (issued_of (asked_sway g setpoint pair wind x) (entry box.lo 1) (entry box.hi 1) -ℤ issued_of (asked_sway g setpoint pair wind x') (entry box.lo 1) (entry box.hi 1)))) ≤ℤ (entry c.g 1 *ℤ n +ℤ full_scale)
sway_stays g c parts k box setpoint pair wind x x' n n0 short v =
    let o = observer_of g parts in
    let axis = across pair.0 pair.1 (north_gap parts x x') (east_gap parts x x') in
    let below = axes_below (matrix_of parts) k.loop.nonneg full_scale pair.0 pair.1 n (north_gap parts x x') (east_gap parts x x') short.short v in
    let z = asked_sway g setpoint pair wind x in let z' = asked_sway g setpoint pair wind x' in
    let lo = entry box.lo 1 in let hi = entry box.hi 1 in
    demand_below full_scale (entry c.g 1) n (dot o.held1 axis) (dot o.bias axis) (form (matrix_of parts) axis) (issued_of z lo hi) (issued_of z' lo hi) _ _ k.loop.scale_positive k.demands.low1 n0 below.1
    (k.demands.held1 axis) (subst (λ (f : ℤ). (f *ℤ f) ≤ℤ (entry c.g 1 *ℤ entry c.g 1 *ℤ form (matrix_of parts) axis)) (k.loop.bias_sway axis) (k.demands.free1 axis))
    (sway_move g parts box setpoint pair wind x x') (issued_split z z' lo hi) (issued_rest z z' lo hi)

pub demands_stay_close : (g : Gains) (c : Cert) → CertifiedLoop g c c.parts → DemandsStayClose g c
demands_stay_close g c k t x x' y y' n n0 short h h' v zero a = surge_stays g c c.parts k t.box t.setpoint t.pair t.wind x x' n n0 short v
demands_stay_close g c k t x x' y y' n n0 short h h' v (suc zero) a = sway_stays g c c.parts k t.box t.setpoint t.pair t.wind x x' n n0 short v
demands_stay_close g c k t x x' y y' n n0 short h h' v (suc (suc axis)) a = absurd (omega arith)

-- ---- close runs
-- what a cycle adds
abbrev added : Cert → ℤ → ℤ
added c s = c.b *ℤ s +ℤ full_scale *ℤ c.r

added_low : (g : Gains) (c : Cert) (parts : Parts) → CertifiedLoop g c parts → (s : ℤ) → pos 0 ≤ℤ s → pos 0 ≤ℤ added c s
added_low g c parts k s s0 = sum_low (c.b *ℤ s) (full_scale *ℤ c.r) (mul_nonneg c.b s k.loop.input_low s0) (mul_nonneg full_scale c.r (omega (arith, ints)) k.loop.rounding_low)
  where
    sum_low : (a b : ℤ) → pos 0 ≤ℤ a → pos 0 ≤ℤ b → pos 0 ≤ℤ (a +ℤ b)
    sum_low a b h k = omega (arith, ints)

gap_low : (g : Gains) (c : Cert) (parts : Parts) → CertifiedLoop g c parts → (s : ℤ) → pos 0 ≤ℤ s → pos 0 ≤ℤ kept_gap c s
gap_low g c parts k s s0 = kept_low full_scale c.rho (added c s) k.rate (added_low g c parts k s s0)

grouped : (a b d : ℤ) → a +ℤ b +ℤ d ≡ a +ℤ (b +ℤ d)
grouped a b d = omega (arith, ints)

gap_kept : (g : Gains) (c : Cert) (parts : Parts) → CertifiedLoop g c parts → (box : Box3) (setpoint : Setpoint) (pair : ℤ × ℤ) (wind : List ℤ) (first second : Option Place) (s : ℤ) → pos 0 ≤ℤ s →
    IsPair pair → AreMeasuredWithin s first second → (x x' : PlaneState) → IsStateOf parts x → IsStateOf parts x' → gap_form parts x x' ≤ℤ (kept_gap c s *ℤ kept_gap c s) →
    gap_form parts (plane_next g x first (push_at g box setpoint pair wind x) pair) (plane_next g x' second (push_at g box setpoint pair wind x') pair) ≤ℤ (kept_gap c s *ℤ kept_gap c s)
gap_kept g c parts k box setpoint pair wind None None s s0 short w x x' h h' v = v
gap_kept g c parts k box setpoint pair wind None (Some y') s s0 short w x x' h h' v = absurd w
gap_kept g c parts k box setpoint pair wind (Some y) None s s0 short w x x' h h' v = absurd w
gap_kept g c parts k box setpoint pair wind (Some y) (Some y') s s0 short w x x' h h' v =
    let m = added c s in let n = kept_gap c s in
    let i = plane_contracts g c parts k box setpoint pair wind x x' n s (gap_low g c parts k s s0) s0 short y y' w h h' v in
    let e : c.rho *ℤ n +ℤ c.b *ℤ s +ℤ full_scale *ℤ c.r ≡ c.rho *ℤ n +ℤ m = grouped (c.rho *ℤ n) (c.b *ℤ s) (full_scale *ℤ c.r) in
    bound_kept full_scale c.rho m n (between g parts box setpoint pair wind x x' y y') k.loop.scale_positive k.loop.rate_low (added_low g c parts k s s0) (gap_low g c parts k s s0) (kept_enough full_scale c.rho m k.rate)
    (subst (λ (z : ℤ). (full_scale *ℤ full_scale *ℤ between g parts box setpoint pair wind x x' y y') ≤ℤ (z *ℤ z)) e i)

cycle_close : (g : Gains) (c : Cert) → CertifiedLoop g c c.parts → (s : ℤ) → pos 0 ≤ℤ s → (t : TwinCycle) → IsTwinCycle s t → (x x' : PlaneState) → AreClose c s x x' →
    AreClose c s (step_in g t x t.first).next (step_in g t x' t.second).next
cycle_close g c k s s0 t i x x' h = record {
  first = stays_of g c.parts k.filter x t.first (push_at g t.box t.setpoint t.pair t.wind x) t.pair h.first;
  second = stays_of g c.parts k.filter x' t.second (push_at g t.box t.setpoint t.pair t.wind x') t.pair h.second;
  kept = gap_kept g c c.parts k t.box t.setpoint t.pair t.wind t.first t.second s s0 i.pair i.places x x' h.first h.second h.kept;
}

pub runs_stay_close : (g : Gains) (c : Cert) → CertifiedLoop g c c.parts → RunsStayClose g c
runs_stay_close g c k s s0 [] all x x' h = h
runs_stay_close g c k s s0 (t ∷ ts) all x x' h =
    runs_stay_close g c k s s0 ts (All-tail (IsTwinCycle s) t ts all) (step_in g t x t.first).next (step_in g t x' t.second).next
    (cycle_close g c k s s0 t (All-head (IsTwinCycle s) t ts all) x x' h)

gap_self : (x : List ℤ) → gap x x ≡ scale (pos 0) x
gap_self [] = refl
gap_self (a ∷ x) = let e = (ring (a ∷ []) (var 0 ⊕ num (negsuc 0) ⊗ var 0) (num (pos 0) ⊗ var 0) tt) in let f = gap_self x in cc

no_gap : (p : List (List ℤ)) (x : List ℤ) → form p (gap x x) ≡ pos 0
no_gap p x = ap (form p) (gap_self x) ∙ form_scale p (pos 0) x ∙ (ring (form p x ∷ []) (num (pos 0) ⊗ num (pos 0) ⊗ var 0) (num (pos 0)) tt)

pub same_is_close : (c : Cert) → SameIsClose c
same_is_close c s s0 x h =
    let p = matrix_of c.parts in
    record {
      first = h;
      second = h;
      kept = at_zero (form p (gap (states_of c.parts (north_of x)) (states_of c.parts (north_of x)))) (form p (gap (states_of c.parts (east_of x)) (states_of c.parts (east_of x)))) (kept_gap c s *ℤ kept_gap c s)
          (no_gap p (states_of c.parts (north_of x))) (no_gap p (states_of c.parts (east_of x))) (square_nonneg (kept_gap c s));
    }
  where
    at_zero : (a b m : ℤ) → a ≡ pos 0 → b ≡ pos 0 → pos 0 ≤ℤ m → (a +ℤ b) ≤ℤ m
    at_zero a b m e f h = omega (arith, ints)

-- ---- forces
pub forces_stay_close : (g : Gains) (c : Cert) → CertifiedLoop g c c.parts → ForcesStayClose g c
unfolding bound
forces_stay_close g c k s s0 t short x x' h y y' row yaw =
    let m = added c s in let n = kept_gap c s in
    let n0 = gap_low g c c.parts k s s0 in
    let d0 = surge_stays g c c.parts k t.box t.setpoint t.pair t.wind x x' n n0 short h.kept in
    let d1 = sway_stays g c c.parts k t.box t.setpoint t.pair t.wind x x' n n0 short h.kept in
    force_below full_scale c.rho (pos (2 ^ 20)) n s c.b c.r (entry row 0) (entry row 1) (entry row 2) (entry c.g 0) (entry c.g 1) _ _ _ _ yaw
    k.loop.scale_positive k.rate (omega (arith, ints)) s0 k.demands.low0 k.demands.low1 (kept_small full_scale c.rho m k.rate) d0 d1

pub twin_forces_stay_close : (g : Gains) (c : Cert) → CertifiedLoop g c c.parts → TwinForcesStayClose g c
twin_forces_stay_close g c k s s0 x h before t all twin row yaw =
    forces_stay_close g c k s s0 t twin.pair (first_after g x before) (second_after g x before)
    (runs_stay_close g c k s s0 before all x x (same_is_close c s s0 x h)) t.first t.second row yaw
