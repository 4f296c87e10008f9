-- What the control law demands of surge, sway and yaw, and which of them its box limits.
use Rattle.std.specs.Prelude.{◌≤◌, ◌^◌, Bool, List, [], ◌∷◌, ℤ, ◌*ℤ◌, unsigned_abs}
use Rattle.dp_fixed.specs.Scale.{full_scale}
use Rattle.dp_plant.specs.declared.gains.Gains.{Gains}
use Rattle.dp_plant.specs.declared.gains.YawGains.{YawGains}
use Rattle.dp_plant.specs.declared.limits.Box3.{Box3}
use Rattle.dp_plant.specs.declared.limits.Setpoint.{Setpoint}
use Rattle.dp_plant.specs.declared.plane.PlaneState.{PlaneState}
use Rattle.dp_plant.specs.declared.yaw.YawState.{YawState}
use Rattle.dp_plant.specs.Law.{asked_surge, asked_sway, plane_demand}
use Rattle.dp_plant.specs.Vectors.{entry}
use Rattle.dp_plant.specs.Yaw.{asked_yaw, yaw_demand}
use Rattle.dp_pid.specs.Axis.{is_limited, times_scale_twice}

-- the demands on surge, sway and yaw
abbrev pub demands_of : Gains → YawGains → Box3 → PlaneState → YawState → Setpoint → ℤ × ℤ → List ℤ
    → List ℤ
demands_of g y box plane yaw setpoint pair wind =
    entry (plane_demand g box setpoint pair wind plane) 0
    ∷ entry (plane_demand g box setpoint pair wind plane) 1
    ∷ yaw_demand y box setpoint wind yaw ∷ []

-- whether the clamp to the box changes what is asked of surge, sway and yaw
abbrev pub limited_of : Gains → YawGains → Box3 → PlaneState → YawState → Setpoint → ℤ × ℤ → List ℤ
    → List Bool
limited_of g y box plane yaw setpoint pair wind =
    is_limited (asked_surge g setpoint pair wind plane) (times_scale_twice (entry box.lo 0))
    (times_scale_twice (entry box.hi 0))
    ∷ is_limited (asked_sway g setpoint pair wind plane) (times_scale_twice (entry box.lo 1))
    (times_scale_twice (entry box.hi 1))
    ∷ is_limited (asked_yaw y setpoint wind yaw) (full_scale *ℤ entry box.lo 2)
    (full_scale *ℤ entry box.hi 2) ∷ []

-- the demands are within 2^31 of zero, in yaw within 2^38
pub record AreDemands (a : List ℤ) : Type 0 where
  pub surge : unsigned_abs (entry a 0) ≤ 2 ^ 31
  pub sway : unsigned_abs (entry a 1) ≤ 2 ^ 31
  pub yaw : unsigned_abs (entry a 2) ≤ 2 ^ 38
