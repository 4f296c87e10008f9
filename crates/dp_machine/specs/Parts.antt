-- A state in the parts in which a machine holds it.
use Rattle.std.specs.Prelude.{◌≡◌, ◌<◌, ◌≤◌, ◌^◌, ◌+◌, ◌-◌, ℕ, Bool, min, List, [], ◌∷◌, All, length, ℤ, Option, unwrap_or}
use Rattle.std.specs.Option.{option_map}
use Rattle.circular_buffer.specs.Buffer.{Buffer}
use Rattle.dp_plant.specs.declared.frames.Slot.{Slot}
use Rattle.dp_plant.specs.declared.place.Place.{Place}
use Rattle.dp_plant.specs.declared.plant.Plant.{Plant}
use Rattle.dp_cert.specs.CertifiedSet.{IsInCertifiedSet}
use Rattle.dp_reftest.specs.declared.kept.Kept.{Kept}
use Rattle.dp_reftest.specs.Tested.{Tested, tested_by}
use Rattle.dp_reftest.specs.Window.{slot_of, window_next}
use Rattle.dp_machine.specs.declared.estimates.Estimates.{Estimates}
use Rattle.dp_machine.specs.declared.references.References.{References}
use Rattle.dp_machine.specs.declared.state.State.{State}
use Rattle.dp_alloc.specs.Ranges.{IsDemandWithin}
use Rattle.dp_machine.specs.Ranges.{IsYawInRange}
use Rattle.dp_machine.specs.Step.{limited_by, limits_at, plane_by, push_by, yaw_by}
use Rattle.dp_machine.specs.declared.sensed.Sensed.{Sensed}
use Rattle.dp_plant.specs.declared.limits.Setpoint.{Setpoint}
use Rattle.dp_plant.specs.declared.plane.PlaneState.{PlaneState}
use Rattle.dp_plant.specs.declared.yaw.YawState.{YawState}
use Rattle.dp_plant.specs.Step.{PlaneStep}
use Rattle.dp_plant.specs.Yaw.{YawStep}
use Rattle.dp_reftest.specs.Verdict.{verdict_of}
use Rattle.dp_plant.specs.declared.references.Verdict.{Verdict}

-- the windows
abbrev pub windows_by : References → List Kept
windows_by refs = refs.first.kept ∷ refs.second.kept ∷ refs.third.kept ∷ []

-- the state with these estimates, windows and last demands
abbrev pub state_by : Estimates → References → List (List ℤ) → State
state_by now refs demands = record {
  count = now.count;
  plane = now.plane;
  yaw = now.yaw;
  heading = now.heading;
  wind = now.wind;
  lost = now.lost;
  samples = windows_by refs;
  demands = record { items = demands };
}

abbrev pub estimates_of : State → Estimates
estimates_of s = record {
  count = s.count;
  plane = s.plane;
  yaw = s.yaw;
  heading = s.heading;
  wind = s.wind;
  lost = s.lost;
}

-- the ranges of estimates
pub record AreEstimates (p : Plant) (now : Estimates) : Type 0 where
  pub count : now.count ≤ 2 ^ 20
  pub plane : IsInCertifiedSet p.cert now.plane
  pub yaw : IsYawInRange now.yaw
  pub heading : now.heading < 36000
  pub wind : now.wind < 36000
  pub lost : now.lost < 2 ^ p.groups

-- the tests are those of the plant's references, and have taken all cycles below `next`
pub record AreReferences (p : Plant) (next : ℕ) (refs : References) : Type 0 where
  pub first_limits : refs.first.limits ≡ limits_at p 0
  pub second_limits : refs.second.limits ≡ limits_at p 1
  pub third_limits : refs.third.limits ≡ limits_at p 2
  pub first_next : refs.first.next ≡ next
  pub second_next : refs.second.next ≡ next
  pub third_next : refs.third.next ≡ next

-- a test after a cycle
abbrev pub taken : Tested → ℕ → Slot Place → Tested
taken t cycle slot =
    tested_by t.limits (cycle + 1) (window_next t.limits.window t.kept cycle slot.last)

-- the three tests after a cycle that brought this on the wires
pub record AreTaken (old new : References) (cycle : ℕ) (pos : List (Slot Place)) : Type 0 where
  pub first : new.first ≡ taken old.first cycle (slot_of pos 0)
  pub second : new.second ≡ taken old.second cycle (slot_of pos 1)
  pub third : new.third ≡ taken old.third cycle (slot_of pos 2)

-- the last demands, one for each cycle up to 60, in a ring of 60
pub record AreDemands (count : ℕ) (ring : Buffer (List ℤ)) : Type 0 where
  pub capacity : ring.capacity ≡ 60
  pub few : length ring.items ≡ min 60 count
  pub within : All IsDemandWithin ring.items

-- what the tests say
abbrev pub verdicts_by : References → List Verdict
verdicts_by r =
    verdict_of r.first.limits r.first.kept (r.first.next - 1)
    ∷ verdict_of r.second.limits r.second.kept (r.second.next - 1)
    ∷ verdict_of r.third.limits r.third.kept (r.third.next - 1) ∷ []

-- ---- a cycle from these parts, and the measured place, if there is one
abbrev pub plane_cycle : Plant → Setpoint → Estimates → Sensed → ℤ × ℤ → Option Place → PlaneStep
plane_cycle p at now h pair place = plane_by p at h.lost pair (push_by p h.gust) now.plane place

abbrev pub yaw_cycle : Plant → Setpoint → Estimates → Sensed → YawStep
yaw_cycle p at now h = yaw_by p at h.lost (push_by p h.gust) now.yaw h.heading

abbrev pub limited_cycle : Plant → Setpoint → Estimates → Sensed → ℤ × ℤ → List Bool
limited_cycle p at now h pair =
    limited_by p at h.lost pair (push_by p h.gust) now.plane now.yaw

-- the estimates of the next cycle
abbrev pub estimates_by : Estimates → Sensed → PlaneState → YawState → Estimates
estimates_by now h plane yaw = record {
  count = now.count + 1;
  plane = plane;
  yaw = yaw;
  heading = unwrap_or h.heading now.heading;
  wind = unwrap_or (option_map (λ g. g.angle) h.gust) now.wind;
  lost = h.lost;
}
