-- One cycle of yaw: what is demanded, and the observer's state after it (Fossen's PID law and
-- nonlinear passive observer, made
-- discrete). Headings are in nanodegrees, and an error of heading is the one that is nearest to
-- zero.
use Rattle.std.specs.Prelude.{ℕ, ◌*◌, ◌^◌, List, Option, Some, None, ℤ, pos, neg_ℤ, ◌+ℤ◌, ◌-ℤ◌, ◌*ℤ◌}
use Rattle.std.specs.Int.{int_rem_euclid}
use Rattle.dp_fixed.specs.Scale.{full_scale}
use Rattle.dp_fixed.specs.Division.{floor_of}
use Rattle.dp_fixed.specs.Order.{clamp_of}
use Rattle.dp_fixed.specs.Turns.{wrap_of}
use Rattle.dp_plant.specs.declared.gains.YawGains.{YawGains}
use Rattle.dp_plant.specs.declared.limits.Box3.{Box3}
use Rattle.dp_plant.specs.declared.limits.Setpoint.{Setpoint}
use Rattle.dp_plant.specs.declared.yaw.YawState.{YawState}
use Rattle.dp_plant.specs.Vectors.{entry}

-- 360 degrees
abbrev pub turn : ℤ
turn = pos 360000000000

-- what is asked of yaw before its limits, over the scale: a spring on the error and a damper on the
-- rate, against the bias within its
-- limit and against the wind
unfoldable pub asked_turn_of : ℤ → ℤ → ℤ → ℤ → ℤ → ℤ → ℤ → ℤ
asked_turn_of kp kd limit error rate bias wind =
    ((neg_ℤ (kp *ℤ error) -ℤ (kd *ℤ rate)) -ℤ (full_scale *ℤ clamp_of bias (neg_ℤ limit) limit))
    -ℤ (full_scale *ℤ wind)

-- the demand: what is asked, within the box of the axis, rounded down
unfoldable pub issued_turn_of : ℤ → ℤ → ℤ → ℤ
issued_turn_of asked lo hi =
    floor_of (clamp_of asked (full_scale *ℤ lo) (full_scale *ℤ hi)) full_scale

abbrev pub asked_yaw : YawGains → Setpoint → List ℤ → YawState → ℤ
asked_yaw g setpoint wind x =
    asked_turn_of g.kp g.kd g.bias (wrap_of (x.psi -ℤ setpoint.psi) turn) x.rate x.beta
    (entry wind 2)

abbrev pub yaw_demand : YawGains → Box3 → Setpoint → List ℤ → YawState → ℤ
yaw_demand g box setpoint wind x =
    issued_turn_of (asked_yaw g setpoint wind x) (entry box.lo 2) (entry box.hi 2)

-- a cycle later, by how far the measured heading is off and what pushes in yaw
abbrev pub yaw_moved : YawGains → YawState → ℤ → ℤ → YawState
yaw_moved g x off push = record {
  psi = int_rem_euclid
      (floor_of ((full_scale *ℤ (x.psi +ℤ x.rate)) +ℤ (g.k2 *ℤ off)) full_scale) turn;
  beta = floor_of (((full_scale *ℤ x.beta) -ℤ (g.leak *ℤ x.beta)) +ℤ (g.k3 *ℤ off)) full_scale;
  rate = floor_of
      (((((full_scale *ℤ x.rate) -ℤ (g.damp *ℤ x.rate)) +ℤ (full_scale *ℤ x.beta))
      +ℤ (full_scale *ℤ push)) +ℤ (g.k4 *ℤ off)) full_scale;
}

-- by a measured heading in hundredths of a degree; a cycle without one holds the state
abbrev pub yaw_next : YawGains → YawState → Option ℕ → ℤ → YawState
yaw_next g x None push = x
yaw_next g x (Some heading) push =
    yaw_moved g x (wrap_of (pos (heading * 10 ^ 7) -ℤ x.psi) turn) push

pub record YawStep : Type 0 where
  pub demand : ℤ
  pub next : YawState

-- from the gains, the box, the setpoint, the wind, the state and the measured heading, if there is
-- one
abbrev pub yaw_step : YawGains → Box3 → Setpoint → List ℤ → YawState → Option ℕ → YawStep
yaw_step g box setpoint wind x heading =
    let demand = yaw_demand g box setpoint wind x in
    record { demand = demand; next = yaw_next g x heading (demand +ℤ entry wind 2) }
