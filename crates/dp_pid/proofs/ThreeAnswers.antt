-- The answers of surge, sway and yaw, put together.
use Rattle.std.proofs.Common.{◌≡◌, ap, sym, subst, ◌∙◌, ℕ, ◌≤◌, List, [], ◌∷◌, Bool, ℤ, unsigned_abs, arith}
use Rattle.std.proofs.lemmas.Int.{ints}
use Rattle.dp_plant.specs.declared.gains.Gains.{Gains}
use Rattle.dp_plant.specs.declared.gains.YawGains.{YawGains}
use Rattle.dp_plant.specs.declared.limits.Box3.{Box3}
use Rattle.dp_plant.specs.declared.limits.Setpoint.{Setpoint}
use Rattle.dp_plant.specs.declared.plane.PlaneState.{PlaneState}
use Rattle.dp_plant.specs.declared.yaw.YawState.{YawState}
use Rattle.dp_plant.specs.Law.{asked_surge, asked_sway}
use Rattle.dp_plant.specs.Ranges.{IsPlaneBox}
use Rattle.dp_plant.specs.Vectors.{entry}
use Rattle.dp_plant.specs.Yaw.{asked_yaw}
use Rattle.dp_plant.specs.YawRanges.{IsYawBox}
use Rattle.dp_pid.specs.declared.axis.Along.{Along}
use Rattle.dp_pid.specs.declared.axis.Answer.{Answer}
use Rattle.dp_pid.specs.Asked.{AreDemands, demands_of, limited_of}
use Rattle.dp_plant.specs.Cases.{IsInBox, IsInRange}
use Rattle.dp_pid.specs.Axis.{IsPlaneAnswer, IsYawAnswer, asked_of_plane, asked_of_yaw}
use Rattle.dp_pid.specs.Body.{plane_axis, surge_of, sway_of, yaw_axis, yaw_of}

-- what is along surge is the state's
pub surge_answer : (g : Gains) (box : Box3) (s : Setpoint) (pair : ℤ × ℤ) (wind : List ℤ) (x : PlaneState) (along : Along) (w : ℤ) (a : Answer)
    → along ≡ surge_of s pair x → w ≡ entry wind 0 → IsPlaneAnswer (plane_axis g box 0) (asked_of_plane (plane_axis g box 0) along w) a
    → IsPlaneAnswer (plane_axis g box 0) (asked_surge g s pair wind x) a
unfolding asked_surge
surge_answer g box s pair wind x along w a e push h =
    let axis = plane_axis g box 0 in
    subst (λ (z : ℤ). IsPlaneAnswer axis z a) (ap (λ (z : Along). asked_of_plane axis z w) e ∙ ap (λ (z : ℤ). asked_of_plane axis (surge_of s pair x) z) push) h

-- what is along sway is the state's
pub sway_answer : (g : Gains) (box : Box3) (s : Setpoint) (pair : ℤ × ℤ) (wind : List ℤ) (x : PlaneState) (along : Along) (w : ℤ) (a : Answer)
    → along ≡ sway_of s pair x → w ≡ entry wind 1 → IsPlaneAnswer (plane_axis g box 1) (asked_of_plane (plane_axis g box 1) along w) a
    → IsPlaneAnswer (plane_axis g box 1) (asked_sway g s pair wind x) a
unfolding asked_sway
sway_answer g box s pair wind x along w a e push h =
    let axis = plane_axis g box 1 in
    subst (λ (z : ℤ). IsPlaneAnswer axis z a) (ap (λ (z : Along). asked_of_plane axis z w) e ∙ ap (λ (z : ℤ). asked_of_plane axis (sway_of s pair x) z) push) h

-- what is in yaw is the state's
pub yaw_answer : (g : YawGains) (box : Box3) (s : Setpoint) (wind : List ℤ) (x : YawState) (along : Along) (w : ℤ) (a : Answer)
    → along ≡ yaw_of s x → w ≡ entry wind 2 → IsYawAnswer (yaw_axis g box) (asked_of_yaw (yaw_axis g box) along w) a
    → IsYawAnswer (yaw_axis g box) (asked_yaw g s wind x) a
yaw_answer g box s wind x along w a e push h =
    let axis = yaw_axis g box in
    subst (λ (z : ℤ). IsYawAnswer axis z a) (ap (λ (z : Along). asked_of_yaw axis z w) e ∙ ap (λ (z : ℤ). asked_of_yaw axis (yaw_of s x) z) push) h

three_are : {A : Type 0} (a b c x y z : A) → a ≡ x → b ≡ y → c ≡ z → (a ∷ b ∷ c ∷ []) ≡ (x ∷ y ∷ z ∷ [])
three_are {A} a b c x y z p q r =
    ap (λ (k : A). k ∷ b ∷ c ∷ []) p ∙ ap (λ (k : A). x ∷ k ∷ c ∷ []) q ∙ ap (λ (k : A). x ∷ y ∷ k ∷ []) r

-- a demand in a range around zero is no farther from zero than the range
short : (lo hi a : ℤ) (n : ℕ) → unsigned_abs lo ≤ n → unsigned_abs hi ≤ n → IsInRange lo hi a → unsigned_abs a ≤ n
short lo hi a n low high h = omega (arith, ints, h.low, h.high)

demands_within : (box : Box3) (a : List ℤ) → IsPlaneBox box → IsYawBox box → IsInBox box a → AreDemands a
demands_within box a plane yaw h = record {
  surge = short _ _ _ _ plane.surge.low plane.surge.high h.surge;
  sway = short _ _ _ _ plane.sway.low plane.sway.high h.sway;
  yaw = short _ _ _ _ yaw.low yaw.high h.yaw;
}

pub issued : (g : Gains) (y : YawGains) (box : Box3) (plane : PlaneState) (yaw : YawState) (s : Setpoint) (pair : ℤ × ℤ) (wind : List ℤ)
    (surge sway turn : Answer) (a : List ℤ) (limited : List Bool) → IsPlaneBox box → IsYawBox box
    → IsPlaneAnswer (plane_axis g box 0) (asked_surge g s pair wind plane) surge
    → IsPlaneAnswer (plane_axis g box 1) (asked_sway g s pair wind plane) sway
    → IsYawAnswer (yaw_axis y box) (asked_yaw y s wind yaw) turn
    → a ≡ (surge.demand ∷ sway.demand ∷ turn.demand ∷ []) → limited ≡ (surge.limited ∷ sway.limited ∷ turn.limited ∷ [])
    → (a ≡ demands_of g y box plane yaw s pair wind) × (limited ≡ limited_of g y box plane yaw s pair wind) × IsInBox box a × AreDemands a
issued g y box plane yaw s pair wind surge sway turn a limited plane_box yaw_box in_surge in_sway in_yaw is_a is_limited =
    let held : IsInBox box a = subst (λ (z : List ℤ). IsInBox box z) (sym is_a) (record { surge = in_surge.range; sway = in_sway.range; yaw = in_yaw.range }) in (
      is_a ∙ three_are _ _ _ _ _ _ in_surge.demand in_sway.demand in_yaw.demand,
      is_limited ∙ three_are _ _ _ _ _ _ in_surge.limited in_sway.limited in_yaw.limited,
      held,
      demands_within box a plane_box yaw_box held,
    )
