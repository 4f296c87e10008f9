-- A cycle made from its parts is the step.
use Rattle.std.proofs.Common.{◌≡◌, ℕ, ◌+◌, ◌-◌, Bool, List, [], ◌∷◌, ◌++◌, Option, unwrap_or, refl, sym, ◌∙◌, ap, arith, ℤ}
use Rattle.dp_consequence.specs.{mean_demand}
use Rattle.dp_plant.specs.declared.alarms.Alarms.{Alarms}
use Rattle.dp_plant.specs.declared.frames.Frame.{Frame}
use Rattle.dp_plant.specs.declared.frames.Slot.{Slot}
use Rattle.dp_plant.specs.declared.limits.Setpoint.{Setpoint}
use Rattle.dp_plant.specs.declared.place.Place.{Place}
use Rattle.dp_plant.specs.declared.plant.Plant.{Plant}
use Rattle.dp_plant.specs.declared.references.RefLimits.{RefLimits}
use Rattle.dp_plant.specs.declared.references.Verdict.{Verdict}
use Rattle.dp_plant.specs.Step.{PlaneStep}
use Rattle.dp_plant.specs.Yaw.{YawStep}
use Rattle.dp_reftest.specs.declared.kept.Kept.{Kept}
use Rattle.dp_reftest.specs.Tested.{Tested}
use Rattle.dp_reftest.specs.Verdict.{verdict_of}
use Rattle.dp_reftest.specs.Window.{last_of, slot_of, window_next}
use Rattle.dp_trig.specs.SinePair.{pair_of}
use Rattle.dp_machine.specs.declared.estimates.Estimates.{Estimates}
use Rattle.dp_machine.specs.declared.references.References.{References}
use Rattle.dp_machine.specs.declared.sensed.Sensed.{Sensed}
use Rattle.dp_machine.specs.declared.state.State.{State}
use Rattle.dp_machine.specs.Parts.{AreReferences, AreTaken, estimates_by, limited_cycle, plane_cycle, state_by, taken, verdicts_by, yaw_cycle}
use Rattle.dp_machine.specs.Step.{Step, alarms_by, alarms_in, forces_by, limited_in, limits_at, measured_at, measured_by, plane_in, sensed_by, sensed_of, step_at, step_by, verdicts_of, whole_demand, yaw_in}

whole_step : (p : Plant) (at : Setpoint) (s : State) (f : Frame)
    → step_at p at s f ≡ step_by p at s f (sensed_of s f) (whole_demand (plane_in p at s f (sensed_of s f)) (yaw_in p at s (sensed_of s f))) (plane_in p at s f (sensed_of s f)).next (yaw_in p at s (sensed_of s f)).next
unfolding step_at
whole_step p at s f = refl

-- ---- the tests of the references after the frame
verdict_is : (t u : Tested) (limits : RefLimits) (n : ℕ) (slot : Slot Place) → t.limits ≡ limits → u ≡ taken t n slot
    → verdict_of u.limits u.kept (u.next - 1) ≡ verdict_of limits (window_next limits.window t.kept n slot.last) n
verdict_is t u limits n slot l e =
    let number : (n + 1) - 1 ≡ n = omega arith in
    ap (λ (v : Tested). verdict_of v.limits v.kept (v.next - 1)) e
    ∙ ap (λ (k : ℕ). verdict_of t.limits (window_next t.limits.window t.kept n slot.last) k) number
    ∙ ap (λ (m : RefLimits). verdict_of m (window_next m.window t.kept n slot.last) n) l

window_is : (t u : Tested) (limits : RefLimits) (n : ℕ) (slot : Slot Place) → t.limits ≡ limits → u ≡ taken t n slot
    → u.kept ≡ window_next limits.window t.kept n slot.last
window_is t u limits n slot l e =
    ap (λ (v : Tested). v.kept) e ∙ ap (λ (m : RefLimits). window_next m.window t.kept n slot.last) l

three : Verdict → Verdict → Verdict → List Verdict
three a b c = a ∷ b ∷ c ∷ []

three_same : (a b c d e f : Verdict) → a ≡ d → b ≡ e → c ≡ f → (a ∷ b ∷ c ∷ []) ≡ (d ∷ e ∷ f ∷ [])
three_same a b c d e f x y z = cc

-- ---- what a step is made of
made : List ℤ → List ℤ → Alarms → List (List ℤ) → Estimates → ℕ → Kept → Kept → Kept → Step
made demand forces alarms demands e n a b c = record {
  issue = record { cycle = n; forces = record { items = forces }; demand = demand; alarms = alarms };
  next = record {
    count = e.count;
    plane = e.plane;
    yaw = e.yaw;
    heading = e.heading;
    wind = e.wind;
    lost = e.lost;
    samples = a ∷ b ∷ c ∷ [];
    demands = record { items = demands };
  };
}

made_same : (d d' fs fs' : List ℤ) (ws ws' : Alarms) (ds ds' : List (List ℤ)) (e e' : Estimates) (n : ℕ) (a b c a' b' c' : Kept)
    → d ≡ d' → fs ≡ fs' → ws ≡ ws' → ds ≡ ds' → e ≡ e' → a ≡ a' → b ≡ b' → c ≡ c' → made d fs ws ds e n a b c ≡ made d' fs' ws' ds' e' n a' b' c'
made_same d d' fs fs' ws ws' ds ds' e e' n a b c a' b' c' h i r j k l m o = cc

alarms_same : (p : Plant) (f : Frame) (vs vs' : List Verdict) (y y' : Option Place) (h h' : Sensed) (bs bs' : List Bool) (ds ds' : List (List ℤ))
    → vs ≡ vs' → y ≡ y' → h ≡ h' → bs ≡ bs' → ds ≡ ds' → alarms_by p vs f y h bs (mean_demand ds) ≡ alarms_by p vs' f y' h' bs' (mean_demand ds')
alarms_same p f vs vs' y y' h h' bs bs' ds ds' i j k l m = cc

module _ (p : Plant) (at : Setpoint) (now : Estimates) (refs after : References) (ds : List (List ℤ)) (f : Frame)
    (are : AreReferences p now.count refs) (heard : AreTaken refs after now.count f.pos)
    (sensed : Sensed) (pair : ℤ × ℤ) (verdicts : List Verdict) (place : Option Place)
    (hs : sensed ≡ sensed_by now.heading now.wind now.lost f) (hp : pair ≡ pair_of (unwrap_or sensed.heading now.heading))
    (hv : verdicts ≡ verdicts_by after) (hy : place ≡ measured_by p pair verdicts) where
  s : State
  s = state_by now refs ds

  h : Sensed
  h = sensed_by now.heading now.wind now.lost f

  verdicts_are : verdicts ≡ verdicts_of p s f
  unfolding s
  verdicts_are = hv ∙ three_same _ _ _ _ _ _
      (verdict_is refs.first after.first (limits_at p 0) now.count (slot_of f.pos 0) are.first_limits heard.first)
      (verdict_is refs.second after.second (limits_at p 1) now.count (slot_of f.pos 1) are.second_limits heard.second)
      (verdict_is refs.third after.third (limits_at p 2) now.count (slot_of f.pos 2) are.third_limits heard.third)

  pair_is : pair ≡ pair_of (unwrap_or h.heading now.heading)
  unfolding h
  pair_is = hp ∙ ap (λ (x : Sensed). pair_of (unwrap_or x.heading now.heading)) hs

  place_is : place ≡ measured_at p (pair_of (unwrap_or h.heading now.heading)) s f
  place_is =
      hy ∙ ap (λ (z : ℤ × ℤ). measured_by p z verdicts) pair_is
      ∙ ap (λ (vs : List Verdict). measured_by p (pair_of (unwrap_or h.heading now.heading)) vs) verdicts_are

  plane_is : plane_cycle p at now sensed pair place ≡ plane_in p at s f h
  unfolding s h
  plane_is =
      ap (λ (x : Sensed). plane_cycle p at now x pair place) hs
      ∙ ap (λ (z : ℤ × ℤ). plane_cycle p at now h z place) pair_is
      ∙ ap (λ (y : Option Place). plane_cycle p at now h (pair_of (unwrap_or h.heading now.heading)) y) place_is

  yaw_is : yaw_cycle p at now sensed ≡ yaw_in p at s h
  unfolding s h
  yaw_is = ap (λ (x : Sensed). yaw_cycle p at now x) hs

  limited_is : limited_cycle p at now sensed pair ≡ limited_in p at s h
  unfolding s h
  limited_is =
      ap (λ (x : Sensed). limited_cycle p at now x pair) hs
      ∙ ap (λ (z : ℤ × ℤ). limited_cycle p at now h z) pair_is

  next_is : (next : Estimates) → next ≡ estimates_by now sensed (plane_cycle p at now sensed pair place).next (yaw_cycle p at now sensed).next
      → next ≡ estimates_by now h (plane_in p at s f h).next (yaw_in p at s h).next
  unfolding h
  next_is next e =
      e ∙ ap (λ (x : PlaneStep). estimates_by now sensed x.next (yaw_cycle p at now sensed).next) plane_is
      ∙ ap (λ (y : YawStep). estimates_by now sensed (plane_in p at s f h).next y.next) yaw_is
      ∙ ap (λ (x : Sensed). estimates_by now x (plane_in p at s f h).next (yaw_in p at s h).next) hs

  pub step_is : (demand forces : List ℤ) (limited : List Bool) (demands : List (List ℤ)) (alarms : Alarms) (next : Estimates)
      → demand ≡ whole_demand (plane_cycle p at now sensed pair place) (yaw_cycle p at now sensed) → limited ≡ limited_cycle p at now sensed pair
      → next ≡ estimates_by now sensed (plane_cycle p at now sensed pair place).next (yaw_cycle p at now sensed).next
      → forces ≡ forces_by p sensed.lost demand → demands ≡ last_of 60 (ds ++ demand ∷ []) → alarms ≡ alarms_by p verdicts f place sensed limited (mean_demand demands)
      → step_at p at (state_by now refs ds) f
      ≡ record { issue = record { cycle = now.count; forces = record { items = forces }; demand = demand; alarms = alarms }; next = state_by next after demands }
  unfolding made s h
  step_is demand forces limited demands alarms next hd hl hn hf hds ha =
      let x = plane_in p at s f h in
      let y = yaw_in p at s h in
      let d : demand ≡ whole_demand x y = hd ∙ ap (λ (z : PlaneStep). whole_demand z (yaw_cycle p at now sensed)) plane_is ∙ ap (λ (z : YawStep). whole_demand x z) yaw_is in
      let fs : forces ≡ forces_by p h.lost (whole_demand x y) = hf ∙ ap (λ (z : Sensed). forces_by p z.lost demand) hs ∙ ap (λ (z : List ℤ). forces_by p h.lost z) d in
      let dds : demands ≡ last_of 60 (ds ++ whole_demand x y ∷ []) = hds ∙ ap (λ (z : List ℤ). last_of 60 (ds ++ z ∷ [])) d in
      let warned : alarms ≡ alarms_in p at s f h (whole_demand x y) =
      ha ∙ alarms_same p f _ _ _ _ _ _ _ _ _ _ verdicts_are place_is hs (hl ∙ limited_is) dds in
      whole_step p at s f ∙ made_same _ _ _ _ _ _ _ _ _ _ _ _ _ _ _ _ _ (sym d) (sym fs) (sym warned) (sym dds) (sym (next_is next hn))
      (sym (window_is refs.first after.first (limits_at p 0) now.count (slot_of f.pos 0) are.first_limits heard.first))
      (sym (window_is refs.second after.second (limits_at p 1) now.count (slot_of f.pos 1) are.second_limits heard.second))
      (sym (window_is refs.third after.third (limits_at p 2) now.count (slot_of f.pos 2) are.third_limits heard.third))
