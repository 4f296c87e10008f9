-- What the control law demands of surge and sway (Fossen's PID law, the bias estimate in place of
-- the integral).
use Rattle.std.specs.Prelude.{List, [], ◌∷◌, ℤ, neg_ℤ, ◌-ℤ◌, ◌*ℤ◌}
use Rattle.dp_fixed.specs.Scale.{full_scale, full_scale_squared}
use Rattle.dp_fixed.specs.Division.{floor_of}
use Rattle.dp_fixed.specs.Order.{clamp_of}
use Rattle.dp_plant.specs.declared.gains.Gains.{Gains}
use Rattle.dp_plant.specs.declared.limits.Box3.{Box3}
use Rattle.dp_plant.specs.declared.limits.Setpoint.{Setpoint}
use Rattle.dp_plant.specs.declared.plane.PlaneState.{PlaneState}
use Rattle.dp_plant.specs.Vectors.{entry, offset, along_surge, along_sway}

-- what is asked of one axis before its limits, over the square of the scale: a spring on the error
-- and a damper on the velocity,
-- against the bias within its limit and against the wind; error, velocity and bias are along the
-- axis, times the scale
unfoldable pub asked_of : ℤ → ℤ → ℤ → ℤ → ℤ → ℤ → ℤ → ℤ
asked_of kp kd limit error velocity bias wind =
    ((neg_ℤ (kp *ℤ error) -ℤ (kd *ℤ velocity))
    -ℤ (full_scale *ℤ clamp_of bias (neg_ℤ (full_scale *ℤ limit)) (full_scale *ℤ limit)))
    -ℤ (full_scale *ℤ (full_scale *ℤ wind))

-- the demand: what is asked, within the box of the axis, rounded down
unfoldable pub issued_of : ℤ → ℤ → ℤ → ℤ
issued_of asked lo hi =
    floor_of
    (clamp_of asked (full_scale *ℤ (full_scale *ℤ lo)) (full_scale *ℤ (full_scale *ℤ hi)))
    full_scale_squared

-- what is asked of surge, and of sway, from a state, by the sine pair and the wind's push
unfoldable pub asked_surge : Gains → Setpoint → ℤ × ℤ → List ℤ → PlaneState → ℤ
asked_surge g setpoint pair wind x = asked_of (entry g.kp 0) (entry g.kd 0) (entry g.bias 0)
    (along_surge pair (offset setpoint.at x.eta)) (along_surge pair x.vel) (along_surge pair x.beta)
    (entry wind 0)

unfoldable pub asked_sway : Gains → Setpoint → ℤ × ℤ → List ℤ → PlaneState → ℤ
asked_sway g setpoint pair wind x = asked_of (entry g.kp 1) (entry g.kd 1) (entry g.bias 1)
    (along_sway pair (offset setpoint.at x.eta)) (along_sway pair x.vel) (along_sway pair x.beta)
    (entry wind 1)

-- the demand of the plane, surge and sway
abbrev pub plane_demand : Gains → Box3 → Setpoint → ℤ × ℤ → List ℤ → PlaneState → List ℤ
plane_demand g box setpoint pair wind x =
    issued_of (asked_surge g setpoint pair wind x) (entry box.lo 0) (entry box.hi 0)
    ∷ issued_of (asked_sway g setpoint pair wind x) (entry box.lo 1) (entry box.hi 1) ∷ []
