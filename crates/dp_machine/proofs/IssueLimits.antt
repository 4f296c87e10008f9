-- Each demand of a cycle is in the box of its case, and so each force within its thruster's limits.
use Rattle.std.proofs.Common.{◌≡◌, ℕ, Option, Some, None, refl, arith, ℤ, ◌+ℤ◌, ◌*ℤ◌, ◌≤ℤ◌, ◌<ℤ◌}
use Rattle.std.proofs.lemmas.Int.{clamps, ints}
use Rattle.dp_fixed.proofs.Divisions.{floor_is}
use Rattle.dp_fixed.specs.Division.{floor_of}
use Rattle.dp_fixed.specs.Order.{clamp_of}
use Rattle.dp_fixed.specs.Scale.{full_scale, full_scale_squared}
use Rattle.dp_plant.proofs.PlantFacts.{case_within}
use Rattle.dp_plant.specs.Cases.{IsInBox, IsInRange, box_of, case_of}
use Rattle.dp_plant.specs.Law.{issued_of}
use Rattle.dp_plant.specs.PlantRanges.{IsCaseWithin}
use Rattle.dp_plant.specs.Vectors.{entry}
use Rattle.dp_plant.specs.Yaw.{issued_turn_of}
use Rattle.dp_plant.specs.declared.frames.Frame.{Frame}
use Rattle.dp_plant.specs.declared.limits.Box3.{Box3}
use Rattle.dp_plant.specs.declared.limits.Setpoint.{Setpoint}
use Rattle.dp_plant.specs.declared.plant.Plant.{Plant}
use Rattle.dp_plant.specs.declared.thrusters.RawCase.{RawCase}
use Rattle.dp_alloc.specs.Laws.{ForcesAreWithinLimits}
use Rattle.dp_machine.specs.declared.sensed.Sensed.{Sensed}
use Rattle.dp_machine.specs.declared.state.State.{State}
use Rattle.dp_machine.specs.Laws.{IssuesAreWithinLimits}
use Rattle.dp_machine.specs.Step.{forces_by, plane_by, plane_in, sensed_of, step_at, whole_demand, yaw_by, yaw_in}

-- ---- a demand is in its range

floor_within : (x lo hi f : ℤ) → (full_scale *ℤ (full_scale *ℤ lo)) ≤ℤ x → x ≤ℤ (full_scale *ℤ (full_scale *ℤ hi)) → (f *ℤ full_scale_squared) ≤ℤ x → x <ℤ (f *ℤ full_scale_squared +ℤ full_scale_squared) → IsInRange lo hi f
floor_within x lo hi f a b c d = record { low = omega (arith, ints); high = omega (arith, ints) }

demand_within : (asked lo hi : ℤ) → lo ≤ℤ hi → IsInRange lo hi (issued_of asked lo hi)
unfolding issued_of
demand_within asked lo hi le =
    let low = full_scale *ℤ (full_scale *ℤ lo) in
    let high = full_scale *ℤ (full_scale *ℤ hi) in
    let f = floor_is (clamp_of asked low high) full_scale_squared (omega (arith, ints)) in
    floor_within (clamp_of asked low high) lo hi (floor_of (clamp_of asked low high) full_scale_squared) (omega (arith, ints, clamps)) (omega (arith, ints, clamps)) f.below f.above

turn_within : (x lo hi f : ℤ) → (full_scale *ℤ lo) ≤ℤ x → x ≤ℤ (full_scale *ℤ hi) → (f *ℤ full_scale) ≤ℤ x → x <ℤ (f *ℤ full_scale +ℤ full_scale) → IsInRange lo hi f
turn_within x lo hi f a b c d = record { low = omega (arith, ints); high = omega (arith, ints) }

turning_within : (asked lo hi : ℤ) → lo ≤ℤ hi → IsInRange lo hi (issued_turn_of asked lo hi)
unfolding issued_turn_of
turning_within asked lo hi le =
    let low = full_scale *ℤ lo in
    let high = full_scale *ℤ hi in
    let f = floor_is (clamp_of asked low high) full_scale (omega (arith, ints)) in
    turn_within (clamp_of asked low high) lo hi (floor_of (clamp_of asked low high) full_scale) (omega (arith, ints, clamps)) (omega (arith, ints, clamps)) f.below f.above

-- ---- the ends of a box are in order

record IsOrdered (b : Box3) : Type 0 where
  surge : entry b.lo 0 ≤ℤ entry b.hi 0
  sway : entry b.lo 1 ≤ℤ entry b.hi 1
  yaw : entry b.lo 2 ≤ℤ entry b.hi 2

case_ordered : (n : ℕ) (c : RawCase) → IsCaseWithin n c → IsOrdered c.bounds
case_ordered n c w =
    let surge_low = w.plane.surge.below in
    let surge_high = w.plane.surge.above in
    let sway_low = w.plane.sway.below in
    let sway_high = w.plane.sway.above in
    let yaw_low = w.yaw.below in
    let yaw_high = w.yaw.above in
    record { surge = omega (arith, ints); sway = omega (arith, ints); yaw = omega (arith, ints) }

box_ordered : (p : Plant) (lost : ℕ) (o : Option RawCase) → case_of p lost ≡ o → IsOrdered (box_of o)
box_ordered p lost None e = record { surge = omega (arith, ints); sway = omega (arith, ints); yaw = omega (arith, ints) }
box_ordered p lost (Some c) e = case_ordered _ c (case_within p lost c e)

-- ---- a cycle's demand

demand_in_box : (p : Plant) (at : Setpoint) (s : State) (f : Frame) (h : Sensed) → IsInBox (box_of (case_of p h.lost)) (whole_demand (plane_in p at s f h) (yaw_in p at s h))
unfolding plane_by yaw_by
demand_in_box p at s f h =
    let o = box_ordered p h.lost (case_of p h.lost) refl in
    record {
      surge = demand_within _ _ _ o.surge;
      sway = demand_within _ _ _ o.sway;
      yaw = turning_within _ _ _ o.yaw;
    }

pub within_limits : (give : ForcesAreWithinLimits) → IssuesAreWithinLimits
unfolding step_at forces_by
within_limits give p at s f accepted k force is =
    let h = sensed_of s f in
    let demand = whole_demand (plane_in p at s f h) (yaw_in p at s h) in
    give p accepted h.lost demand (demand_in_box p at s f h) k force is
