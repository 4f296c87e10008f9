-- One axis: what is asked of it, and what it answers. Surge, sway and yaw differ in their gains,
-- their range and their unit: what is asked
-- is over the square of the scale for surge and sway, and over the scale for yaw.
use Rattle.std.specs.Prelude.{◌≡◌, ◌≤◌, ◌^◌, Bool, not, ℤ, pos, neg_ℤ, ◌-ℤ◌, ◌*ℤ◌, ◌≤ℤ◌, unsigned_abs}
use Rattle.std.specs.Ordering.{int_eq}
use Rattle.dp_fixed.specs.Scale.{full_scale}
use Rattle.dp_fixed.specs.Order.{clamp_of}
use Rattle.dp_plant.specs.Cases.{IsInRange}
use Rattle.dp_plant.specs.Law.{asked_of, issued_of}
use Rattle.dp_plant.specs.Ranges.{IsShare}
use Rattle.dp_plant.specs.Yaw.{asked_turn_of, issued_turn_of}
use Rattle.dp_pid.specs.declared.axis.Answer.{Answer}
use Rattle.dp_pid.specs.declared.axis.Along.{Along}
use Rattle.dp_pid.specs.declared.axis.Axis.{Axis}

-- a spring on the error and a damper on the velocity, against the bias within its limit and against
-- the wind, which are given over the
-- axis's unit
abbrev pub asked_along : Axis → ℤ → ℤ → Along → ℤ
asked_along axis limit wind along =
    ((neg_ℤ (axis.kp *ℤ along.error) -ℤ (axis.kd *ℤ along.velocity))
    -ℤ (full_scale *ℤ clamp_of along.bias (neg_ℤ limit) limit)) -ℤ wind

-- what is asked of surge or sway, by a push of the wind
abbrev pub asked_of_plane : Axis → Along → ℤ → ℤ
asked_of_plane axis along wind =
    asked_of axis.kp axis.kd axis.bias along.error along.velocity along.bias wind

-- what is asked of yaw
abbrev pub asked_of_yaw : Axis → Along → ℤ → ℤ
asked_of_yaw axis along wind =
    asked_turn_of axis.kp axis.kd axis.bias along.error along.velocity along.bias wind

-- whether the clamp to a range changes what is asked; both are over the axis's unit
abbrev pub is_limited : ℤ → ℤ → ℤ → Bool
is_limited asked lo hi = not (int_eq (clamp_of asked lo hi) asked)

-- times the square of the scale
abbrev pub times_scale_twice : ℤ → ℤ
times_scale_twice x = full_scale *ℤ (full_scale *ℤ x)

-- the gains of an axis are shares; its range holds zero; bias and range are within a limit of zero
pub record IsAxis (limit : ℤ) (a : Axis) : Type 0 where
  pub kp : IsShare a.kp
  pub kd : IsShare a.kd
  pub bias_low : pos 0 ≤ℤ a.bias
  pub bias_high : a.bias ≤ℤ limit
  pub below : a.lo ≤ℤ pos 0
  pub above : pos 0 ≤ℤ a.hi
  pub low : neg_ℤ limit ≤ℤ a.lo
  pub high : a.hi ≤ℤ limit

-- the answer of surge or sway to what is asked
pub record IsPlaneAnswer (axis : Axis) (asked : ℤ) (a : Answer) : Type 0 where
  pub demand : a.demand ≡ issued_of asked axis.lo axis.hi
  pub limited : a.limited ≡ is_limited asked (times_scale_twice axis.lo) (times_scale_twice axis.hi)
  pub range : IsInRange axis.lo axis.hi a.demand

-- the answer of yaw to what is asked
pub record IsYawAnswer (axis : Axis) (asked : ℤ) (a : Answer) : Type 0 where
  pub demand : a.demand ≡ issued_turn_of asked axis.lo axis.hi
  pub limited : a.limited ≡ is_limited asked (full_scale *ℤ axis.lo) (full_scale *ℤ axis.hi)
  pub range : IsInRange axis.lo axis.hi a.demand

-- error, velocity and bias along an axis
pub record IsAlongWithin (a : Along) : Type 0 where
  pub error : unsigned_abs a.error ≤ 2 ^ 88
  pub velocity : unsigned_abs a.velocity ≤ 2 ^ 88
  pub bias : unsigned_abs a.bias ≤ 2 ^ 88

-- error, velocity and bias in yaw
pub record IsTurnWithin (a : Along) : Type 0 where
  pub error : unsigned_abs a.error ≤ 2 ^ 38
  pub velocity : unsigned_abs a.velocity ≤ 2 ^ 56
  pub bias : unsigned_abs a.bias ≤ 2 ^ 56
