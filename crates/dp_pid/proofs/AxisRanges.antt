-- The axes of a plant are in their ranges.
use Rattle.std.proofs.Common.{ℕ, zero, suc, ◌<◌, ◌≤◌, ◌^◌, ℤ, pos, neg_ℤ, ◌≤ℤ◌, unsigned_abs, arith}
use Rattle.std.proofs.lemmas.Int.{ints}
use Rattle.dp_plant.specs.declared.gains.Gains.{Gains}
use Rattle.dp_plant.specs.declared.gains.YawGains.{YawGains}
use Rattle.dp_plant.specs.declared.limits.Box3.{Box3}
use Rattle.dp_plant.specs.Ranges.{IsLawGains, IsPlaneBox}
use Rattle.dp_plant.specs.YawRanges.{IsYawBox, IsYawGains}
use Rattle.dp_pid.specs.Axis.{IsAxis}
use Rattle.dp_pid.specs.Body.{plane_axis, yaw_axis}

not_above : (x : ℤ) (n : ℕ) → unsigned_abs x ≤ n → x ≤ℤ pos n
not_above x n h = omega (arith, ints)

not_below : (x : ℤ) (n : ℕ) → unsigned_abs x ≤ n → neg_ℤ (pos n) ≤ℤ x
not_below x n h = omega (arith, ints)

pub is_plane_axis : (g : Gains) (box : Box3) (j : ℕ) → IsLawGains g → IsPlaneBox box → j < 2 → IsAxis (pos (2 ^ 31)) (plane_axis g box j)
is_plane_axis g box zero gains limits h = record {
  kp = gains.kp_surge;
  kd = gains.kd_surge;
  bias_low = gains.bias_surge.low;
  bias_high = not_above _ _ gains.bias_surge.high;
  below = limits.surge.below;
  above = limits.surge.above;
  low = not_below _ _ limits.surge.low;
  high = not_above _ _ limits.surge.high;
}
is_plane_axis g box (suc zero) gains limits h = record {
  kp = gains.kp_sway;
  kd = gains.kd_sway;
  bias_low = gains.bias_sway.low;
  bias_high = not_above _ _ gains.bias_sway.high;
  below = limits.sway.below;
  above = limits.sway.above;
  low = not_below _ _ limits.sway.low;
  high = not_above _ _ limits.sway.high;
}
is_plane_axis g box (suc (suc j)) gains limits h = absurd (omega (arith, h))

pub is_yaw_axis : (g : YawGains) (box : Box3) → IsYawGains g → IsYawBox box → IsAxis (pos (2 ^ 38)) (yaw_axis g box)
is_yaw_axis g box gains limits = record {
  kp = gains.kp;
  kd = gains.kd;
  bias_low = gains.bias.low;
  bias_high = gains.bias.high;
  below = limits.below;
  above = limits.above;
  low = not_below _ _ limits.low;
  high = not_above _ _ limits.high;
}
