-- The parts of a cycle, put together.
use Rattle.std.proofs.Common.{◌≡◌, ℕ, Bool, List, Option, refl, sym, ◌∙◌, ap, ℤ, ◌+ℤ◌}
use Rattle.dp_plant.specs.declared.limits.Setpoint.{Setpoint}
use Rattle.dp_plant.specs.declared.place.Place.{Place}
use Rattle.dp_plant.specs.declared.plane.PlaneState.{PlaneState}
use Rattle.dp_plant.specs.declared.plant.Plant.{Plant}
use Rattle.dp_plant.specs.declared.yaw.YawState.{YawState}
use Rattle.dp_plant.specs.Observer.{plane_next}
use Rattle.dp_plant.specs.Step.{PlaneStep, push_of}
use Rattle.dp_plant.specs.Vectors.{entry}
use Rattle.dp_plant.specs.Yaw.{YawStep, yaw_next}
use Rattle.dp_machine.specs.declared.estimates.Estimates.{Estimates}
use Rattle.dp_machine.specs.declared.sensed.Sensed.{Sensed}
use Rattle.dp_machine.specs.Parts.{estimates_by, limited_cycle, plane_cycle, yaw_cycle}
use Rattle.dp_machine.specs.Step.{limited_by, plane_by, push_by, whole_demand, yaw_by}

-- ---- the next states, by the whole demand
plane_next_is : (p : Plant) (at : Setpoint) (lost : ℕ) (pair : ℤ × ℤ) (wind : List ℤ) (x : PlaneState) (y : Option Place) (yaw : YawStep)
    → (plane_by p at lost pair wind x y).next ≡ plane_next p.gains x y (push_of (whole_demand (plane_by p at lost pair wind x y) yaw) wind) pair
unfolding plane_by
plane_next_is p at lost pair wind x y yaw = refl

yaw_next_is : (p : Plant) (at : Setpoint) (lost : ℕ) (wind : List ℤ) (x : YawState) (h : Option ℕ) (plane : PlaneStep)
    → (yaw_by p at lost wind x h).next ≡ yaw_next p.yaw x h (entry (whole_demand plane (yaw_by p at lost wind x h)) 2 +ℤ entry wind 2)
unfolding yaw_by
yaw_next_is p at lost wind x h plane = refl

module _ (p : Plant) (at : Setpoint) (now : Estimates) (h : Sensed) (pair : ℤ × ℤ) (place : Option Place) (wind demand : List ℤ)
    (pushed : wind ≡ push_by p h.gust)
    (asked : (y : Option Place) (k : Option ℕ) → demand ≡ whole_demand (plane_by p at h.lost pair wind now.plane y) (yaw_by p at h.lost wind now.yaw k)) where
  pub cycle_demand : demand ≡ whole_demand (plane_cycle p at now h pair place) (yaw_cycle p at now h)
  cycle_demand =
      asked place h.heading
      ∙ ap (λ (w : List ℤ). whole_demand (plane_by p at h.lost pair w now.plane place) (yaw_by p at h.lost w now.yaw h.heading)) pushed

  pub cycle_limited : (limited : List Bool) → limited ≡ limited_by p at h.lost pair wind now.plane now.yaw → limited ≡ limited_cycle p at now h pair
  cycle_limited limited e = e ∙ ap (λ (w : List ℤ). limited_by p at h.lost pair w now.plane now.yaw) pushed

  plane_cycle_next : plane_next p.gains now.plane place (push_of demand wind) pair ≡ (plane_cycle p at now h pair place).next
  plane_cycle_next =
      ap (λ (d : List ℤ). plane_next p.gains now.plane place (push_of d wind) pair) (asked place h.heading)
      ∙ sym (plane_next_is p at h.lost pair wind now.plane place (yaw_by p at h.lost wind now.yaw h.heading))
      ∙ ap (λ (w : List ℤ). (plane_by p at h.lost pair w now.plane place).next) pushed

  yaw_cycle_next : yaw_next p.yaw now.yaw h.heading (entry demand 2 +ℤ entry wind 2) ≡ (yaw_cycle p at now h).next
  yaw_cycle_next =
      ap (λ (d : List ℤ). yaw_next p.yaw now.yaw h.heading (entry d 2 +ℤ entry wind 2)) (asked place h.heading)
      ∙ sym (yaw_next_is p at h.lost wind now.yaw h.heading (plane_by p at h.lost pair wind now.plane place))
      ∙ ap (λ (w : List ℤ). (yaw_by p at h.lost w now.yaw h.heading).next) pushed

  pub cycle_next : (x : PlaneState) (y : YawState) (next : Estimates) → x ≡ plane_next p.gains now.plane place (push_of demand wind) pair
      → y ≡ yaw_next p.yaw now.yaw h.heading (entry demand 2 +ℤ entry wind 2) → next ≡ estimates_by now h x y
      → next ≡ estimates_by now h (plane_cycle p at now h pair place).next (yaw_cycle p at now h).next
  cycle_next x y next k l j =
      j ∙ ap (λ (z : PlaneState). estimates_by now h z y) (k ∙ plane_cycle_next)
      ∙ ap (λ (z : YawState). estimates_by now h (plane_cycle p at now h pair place).next z) (l ∙ yaw_cycle_next)
