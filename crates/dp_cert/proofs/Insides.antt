-- The certified set: a cycle stays in it, a state at rest is in it, and what is in it is within the widths.
use Rattle.std.proofs.Common.{◌≡◌, ◌<◌, ◌≤◌, ◌^◌, ℕ, zero, suc, List, [], ◌∷◌, Option, Some, None, refl, sym, ap, subst, ◌∙◌, arith, ℤ, pos, ◌+ℤ◌, ◌-ℤ◌, ◌*ℤ◌, ◌≤ℤ◌}
use Rattle.std.proofs.lemmas.Int.{ints}
use Rattle.std.specs.Int.{int_max}
use Rattle.std.specs.Prelude.{unsigned_abs, IfSome}
use Rattle.dp_form.proofs.Order.{mul_nonneg}
use Rattle.dp_fixed.specs.Scale.{full_scale}
use Rattle.dp_fixed.specs.Division.{ceil_of}
use Rattle.dp_fixed.specs.Roots.{root_of}
use Rattle.dp_form.specs.Vectors.{scale, entry as matrix_entry}
use Rattle.dp_form.specs.Form.{form}
use Rattle.dp_form.proofs.Entries.{place}
use Rattle.dp_plant.specs.declared.cert.Cert.{Cert}
use Rattle.dp_plant.specs.declared.cert.Parts.{Parts}
use Rattle.dp_plant.specs.declared.cert.Parts.TheVariants.{Three, Five}
use Rattle.dp_plant.specs.declared.gains.Gains.{Gains}
use Rattle.dp_plant.specs.declared.gains.YawGains.{YawGains}
use Rattle.dp_plant.specs.declared.place.Place.{Place}
use Rattle.dp_plant.specs.declared.plane.Component.{Component}
use Rattle.dp_plant.specs.declared.plane.PlaneState.{PlaneState}
use Rattle.dp_plant.specs.Observer.{north_of, east_of, plane_next, rest_at}
use Rattle.dp_plant.specs.Ranges.{IsComponentWithin, IsPair, IsPush, IsMeasuredPlace, IsVectorWithin}
use Rattle.dp_plant.specs.Vectors.{entry, along_north, along_east}
use Rattle.dp_cert.specs.CertifiedSet.{reach_by, width_by, CycleStaysInside, RestIsInside, InsideIsNarrow, InsideIsWithin}
use Rattle.dp_cert.specs.States.{IsStateOf, matrix_of, state_count, state_form, states_of}
use Rattle.dp_cert.specs.Valid.{IsValid}
use Rattle.dp_cert.specs.Width.{reach, width}
use Rattle.dp_cert.proofs.CertifiedLoops.{observer_of, span_of, CertifiedLoop}
use Rattle.dp_cert.proofs.MatrixForms.{one_at, entry_bilinear}
use Rattle.dp_cert.proofs.PlaneMoves.{component_is}
use Rattle.dp_cert.proofs.Reaches.{reach_step, form_same, enough_of, within_near, second_of, first_of_max, same_forms, rest_below, rest_form, kept_first, zeroed, width_below}
use Rattle.dp_cert.proofs.Roots.{root_enough, root_low}
use Rattle.dp_cert.proofs.Runs.{square_le}
use Rattle.dp_cert.proofs.TooWide.{width_within}
use Rattle.dp_cert.proofs.ValidFacts.{IsNoneTooWide, none_too_wide}
use Rattle.dp_cert.proofs.Twins.{north_is, east_is, stays_of}
use Rattle.dp_cert.proofs.WaveVertices.{five, wave_velocity_unit}

-- ---- the reach
-- twice an entry of the form, rounded up to a root
abbrev root_at : Parts → ℕ → ℤ
root_at parts i = root_of (pos 2 *ℤ matrix_entry (matrix_of parts) i i)

abbrev kept_of : Cert → Parts → ℤ
kept_of c parts = ceil_of (c.b *ℤ pos (2 ^ 44) +ℤ full_scale *ℤ (root_at parts 2 *ℤ pos (2 ^ 32) +ℤ pos 2 *ℤ c.r)) (full_scale -ℤ c.rho)

reach_is : (c : Cert) (parts : Parts) → reach_by c parts ≡ int_max (root_at parts 0 *ℤ pos (2 ^ 43)) (kept_of c parts)
unfolding reach
reach_is c (Three l) = refl
reach_is c (Five l) = refl

start_low : (parts : Parts) → pos 0 ≤ℤ (root_at parts 0 *ℤ pos (2 ^ 43))
start_low parts = mul_nonneg (root_at parts 0) (pos (2 ^ 43)) (root_low (pos 2 *ℤ matrix_entry (matrix_of parts) 0 0)) (omega (arith, ints))

start_below : (c : Cert) (parts : Parts) → (root_at parts 0 *ℤ pos (2 ^ 43)) ≤ℤ reach_by c parts
start_below c parts = first_of_max (root_at parts 0 *ℤ pos (2 ^ 43)) (kept_of c parts) (reach_by c parts) (reach_is c parts)

pub reach_low : (c : Cert) (parts : Parts) → pos 0 ≤ℤ reach_by c parts
reach_low c parts = joined (root_at parts 0 *ℤ pos (2 ^ 43)) (reach_by c parts) (start_low parts) (start_below c parts)
  where
    joined : (a b : ℤ) → pos 0 ≤ℤ a → a ≤ℤ b → pos 0 ≤ℤ b
    joined a b h k = omega (arith, ints)

-- ---- a cycle
unit_five : (i : ℕ) → place (one_at 2) i ≡ place wave_velocity_unit i
unit_five zero = refl
unit_five (suc zero) = refl
unit_five (suc (suc zero)) = refl
unit_five (suc (suc (suc zero))) = refl
unit_five (suc (suc (suc (suc zero)))) = refl
unit_five (suc (suc (suc (suc (suc i))))) = refl

thrust_is : (g : Gains) (parts : Parts) → matrix_entry (matrix_of parts) 2 2 ≡ form (matrix_of parts) (observer_of g parts).thrust
thrust_is g (Three l) = entry_bilinear l.p.at 2 2
thrust_is g (Five l) = entry_bilinear l.p.at 2 2 ∙ form_same l.p.at (one_at 2) wave_velocity_unit unit_five

inside_next : (g : Gains) (c : Cert) (parts : Parts) → CertifiedLoop g c parts → (x : PlaneState) (y : Option Place) (push : List ℤ) (pair : ℤ × ℤ) → IfSome y IsMeasuredPlace → IsPush push → IsPair pair → IsStateOf parts x →
    state_form parts x ≤ℤ (reach_by c parts *ℤ reach_by c parts) → state_form parts (plane_next g x y push pair) ≤ℤ (reach_by c parts *ℤ reach_by c parts)
inside_next g c parts k x None push pair hy hp short h v = v
inside_next g c parts k x (Some y) push pair hy hp short h v =
    let n = reach_by c parts in let t = root_at parts 2 in
    let north = along_north pair push in let east = along_east pair push in
    let root = subst (λ (z : ℤ). (pos 2 *ℤ z) ≤ℤ (t *ℤ t)) (thrust_is g parts) (root_enough (pos 2 *ℤ matrix_entry (matrix_of parts) 2 2)) in
    subst (λ (z : ℤ). z ≤ℤ (n *ℤ n)) (same_forms (matrix_of parts) _ _ _ _ (component_is g parts (north_of x) y.north north (north_is parts x h)) (component_is g parts (east_of x) y.east east (east_is parts x h)))
    (reach_step (observer_of g parts) (matrix_of parts) c.rho c.b c.r t k.loop k.rate (root_low (pos 2 *ℤ matrix_entry (matrix_of parts) 2 2)) root pair.0 pair.1 short.short
    (states_of parts (north_of x)) (states_of parts (east_of x)) y.north y.east (entry push 0) (entry push 1) (pos (2 ^ 44)) (pos (2 ^ 32)) n (omega (arith, ints)) (omega (arith, ints)) (reach_low c parts)
    (within_near (2 ^ 44) y.north hy.north) (within_near (2 ^ 44) y.east hy.east) (within_near (2 ^ 32) (entry push 0) hp.surge) (within_near (2 ^ 32) (entry push 1) hp.sway) v
    (enough_of full_scale c.rho c.b t c.r (pos (2 ^ 44)) (pos (2 ^ 32)) n k.rate k.loop.rounding_low k.loop.scale_positive (second_of (root_at parts 0 *ℤ pos (2 ^ 43)) (kept_of c parts) n (reach_is c parts))))

pub cycle_stays_inside : (g : Gains) (c : Cert) → CertifiedLoop g c c.parts → CycleStaysInside g c
cycle_stays_inside g c k x y push pair hy hp short h = record {
  of_parts = stays_of g c.parts k.filter x y push pair h.of_parts;
  inside = inside_next g c c.parts k x y push pair hy hp short h.of_parts h.inside;
}

-- ---- at rest
three : (a b c x y z : ℤ) → a ≡ x → b ≡ y → c ≡ z → a ∷ b ∷ c ∷ [] ≡ x ∷ y ∷ z ∷ []
three a b c x y z p q r = cc

place_three : (h : ℤ) → h ∷ pos 0 ∷ pos 0 ∷ [] ≡ scale h (pos 1 ∷ pos 0 ∷ pos 0 ∷ [])
place_three h = three _ _ _ _ _ _ (kept_first h) (zeroed h) (zeroed h)

place_five : (h : ℤ) → h ∷ pos 0 ∷ pos 0 ∷ pos 0 ∷ pos 0 ∷ [] ≡ scale h (pos 1 ∷ pos 0 ∷ pos 0 ∷ pos 0 ∷ pos 0 ∷ [])
place_five h = five _ _ _ _ _ _ _ _ _ _ (kept_first h) (zeroed h) (zeroed h) (zeroed h) (zeroed h)

first_three : (i : ℕ) → place (one_at 0) i ≡ place (pos 1 ∷ pos 0 ∷ pos 0 ∷ []) i
first_three zero = refl
first_three (suc zero) = refl
first_three (suc (suc zero)) = refl
first_three (suc (suc (suc i))) = refl

first_five : (i : ℕ) → place (one_at 0) i ≡ place (pos 1 ∷ pos 0 ∷ pos 0 ∷ pos 0 ∷ pos 0 ∷ []) i
first_five zero = refl
first_five (suc zero) = refl
first_five (suc (suc zero)) = refl
first_five (suc (suc (suc zero))) = refl
first_five (suc (suc (suc (suc zero)))) = refl
first_five (suc (suc (suc (suc (suc i))))) = refl

rest_north : (parts : Parts) (at : Place) → form (matrix_of parts) (states_of parts (north_of (rest_at at))) ≡ at.north *ℤ at.north *ℤ matrix_entry (matrix_of parts) 0 0
rest_north (Three l) at = rest_form l.p.at at.north (at.north ∷ pos 0 ∷ pos 0 ∷ []) (pos 1 ∷ pos 0 ∷ pos 0 ∷ []) (place_three at.north) first_three
rest_north (Five l) at = rest_form l.p.at at.north (at.north ∷ pos 0 ∷ pos 0 ∷ pos 0 ∷ pos 0 ∷ []) (pos 1 ∷ pos 0 ∷ pos 0 ∷ pos 0 ∷ pos 0 ∷ []) (place_five at.north) first_five

rest_east : (parts : Parts) (at : Place) → form (matrix_of parts) (states_of parts (east_of (rest_at at))) ≡ at.east *ℤ at.east *ℤ matrix_entry (matrix_of parts) 0 0
rest_east (Three l) at = rest_form l.p.at at.east (at.east ∷ pos 0 ∷ pos 0 ∷ []) (pos 1 ∷ pos 0 ∷ pos 0 ∷ []) (place_three at.east) first_three
rest_east (Five l) at = rest_form l.p.at at.east (at.east ∷ pos 0 ∷ pos 0 ∷ pos 0 ∷ pos 0 ∷ []) (pos 1 ∷ pos 0 ∷ pos 0 ∷ pos 0 ∷ pos 0 ∷ []) (place_five at.east) first_five

rest_inside : (g : Gains) (c : Cert) (parts : Parts) → CertifiedLoop g c parts → (at : Place) → IsVectorWithin (2 ^ 43) at → state_form parts (rest_at at) ≤ℤ (reach_by c parts *ℤ reach_by c parts)
rest_inside g c parts k at h =
    let p = matrix_of parts in let v = matrix_entry p 0 0 in let u = root_at parts 0 in
    let v0 : pos 0 ≤ℤ v = subst (λ (z : ℤ). pos 0 ≤ℤ z) (sym (entry_bilinear p 0 0)) (k.loop.nonneg (one_at 0)) in
    let far = pos (2 ^ 43) in
    let a = rest_below v at.north at.east u far v0 (root_enough (pos 2 *ℤ v)) (within_near (2 ^ 43) at.north h.north) (within_near (2 ^ 43) at.east h.east) in
    let b = square_le (u *ℤ far) (reach_by c parts) (start_low parts) (start_below c parts) in
    joined _ _ _ _ (u *ℤ far *ℤ (u *ℤ far)) (reach_by c parts *ℤ reach_by c parts) (rest_north parts at) (rest_east parts at) a b
  where
    joined : (f g x y m n : ℤ) → f ≡ x → g ≡ y → (x +ℤ y) ≤ℤ m → m ≤ℤ n → (f +ℤ g) ≤ℤ n
    joined f g x y m n e d h i = omega (arith, ints)

rest_of_parts : (parts : Parts) (at : Place) → IsStateOf parts (rest_at at)
rest_of_parts (Three l) at = record { wave_p = refl; wave_q = refl }
rest_of_parts (Five l) at = tt

pub rest_is_inside : (g : Gains) (c : Cert) → CertifiedLoop g c c.parts → RestIsInside c
rest_is_inside g c k at h = record { of_parts = rest_of_parts c.parts at; inside = rest_inside g c c.parts k at h }

-- ---- widths
width_is : (c : Cert) (parts : Parts) (i : ℕ) → ceil_of (entry (span_of parts) i *ℤ reach_by c parts) full_scale ≡ width_by c parts i
unfolding width
width_is c (Three l) i = refl
width_is c (Five l) i = refl

pub coordinate_within : (g : Gains) (c : Cert) (parts : Parts) → CertifiedLoop g c parts → (x : List ℤ) → form (matrix_of parts) x ≤ℤ (reach_by c parts *ℤ reach_by c parts) → (i : ℕ) → i < state_count parts →
    pos (unsigned_abs (place x i)) ≤ℤ width_by c parts i
coordinate_within g c parts k x v i h =
    subst (λ (w : ℤ). pos (unsigned_abs (place x i)) ≤ℤ w) (width_is c parts i)
    (width_below full_scale (entry (span_of parts) i) (place x i) (form (matrix_of parts) x) (reach_by c parts) k.loop.scale_positive (k.spans i) (reach_low c parts) (k.coordinates i h x) v)

-- each part of a sum of numbers from 0 up is at most what the sum is
pub both_below : (f g n : ℤ) → pos 0 ≤ℤ f → pos 0 ≤ℤ g → (f +ℤ g) ≤ℤ n → (f ≤ℤ n) × (g ≤ℤ n)
both_below f g n h i j = (omega (arith, ints), omega (arith, ints))

pub inside_is_narrow : (g : Gains) (c : Cert) → CertifiedLoop g c c.parts → InsideIsNarrow c
inside_is_narrow g c k x v i h =
    let north = states_of c.parts (north_of x) in let east = states_of c.parts (east_of x) in
    let parts = both_below (form (matrix_of c.parts) north) (form (matrix_of c.parts) east) (reach_by c c.parts *ℤ reach_by c c.parts) (k.loop.nonneg north) (k.loop.nonneg east) v in
    record { north = coordinate_within g c c.parts k north parts.0 i h; east = coordinate_within g c c.parts k east parts.1 i h }

-- ---- so each is within 2^56
abbrev IsWaveOf : Parts → Component → Type 0
IsWaveOf (Three l) x = (x.wave_p ≡ pos 0) × (x.wave_q ≡ pos 0)
IsWaveOf (Five l) x = Unit {0}

width_most : (c : Cert) (parts : Parts) → IsNoneTooWide c parts → (i : ℕ) → i < state_count parts → width_by c parts i ≤ℤ pos (2 ^ 56)
width_most c (Three l) h i b = width_within c l h i b
width_most c (Five l) h i b = width_within c l h i b

small : (z w : ℤ) → pos (unsigned_abs z) ≤ℤ w → w ≤ℤ pos (2 ^ 56) → unsigned_abs z ≤ 2 ^ 56
small z w h k = omega (arith, ints)

none_small : (z : ℤ) → z ≡ pos 0 → unsigned_abs z ≤ 2 ^ 56
none_small z e = subst (λ (x : ℤ). unsigned_abs x ≤ 2 ^ 56) (sym e) (omega arith)

component_within : (parts : Parts) (x : Component) → IsWaveOf parts x → ((i : ℕ) → i < state_count parts → unsigned_abs (entry (states_of parts x) i) ≤ 2 ^ 56) → IsComponentWithin x
component_within (Three l) x w h = record { eta = h 0 (omega arith); beta = h 1 (omega arith); vel = h 2 (omega arith); wave_p = none_small x.wave_p w.0; wave_q = none_small x.wave_q w.1 }
component_within (Five l) x w h = record { eta = h 0 (omega arith); beta = h 1 (omega arith); vel = h 2 (omega arith); wave_p = h 3 (omega arith); wave_q = h 4 (omega arith) }

north_wave : (parts : Parts) (x : PlaneState) → IsStateOf parts x → IsWaveOf parts (north_of x)
north_wave (Three l) x h = (ap (λ (p : Place). p.north) h.wave_p, ap (λ (p : Place). p.north) h.wave_q)
north_wave (Five l) x h = tt

east_wave : (parts : Parts) (x : PlaneState) → IsStateOf parts x → IsWaveOf parts (east_of x)
east_wave (Three l) x h = (ap (λ (p : Place). p.east) h.wave_p, ap (λ (p : Place). p.east) h.wave_q)
east_wave (Five l) x h = tt

pub inside_is_within : (g : Gains) (y : YawGains) (c : Cert) → CertifiedLoop g c c.parts → IsValid g y c → InsideIsWithin c
inside_is_within g y c k v x h =
    let n = inside_is_narrow g c k x h.inside in
    let most = width_most c c.parts (none_too_wide g c v.no_fault) in
    record {
      north = component_within c.parts (north_of x) (north_wave c.parts x h.of_parts) (λ i b. small (entry (states_of c.parts (north_of x)) i) (width_by c c.parts i) (n i b).north (most i b));
      east = component_within c.parts (east_of x) (east_wave c.parts x h.of_parts) (λ i b. small (entry (states_of c.parts (east_of x)) i) (width_by c c.parts i) (n i b).east (most i b));
    }
