-- The gains of yaw are shares.
use Rattle.std.proofs.Common.{ℤ, pos, ◌^◌, ◌≤ℤ◌, arith}
use Rattle.std.proofs.lemmas.Int.{ints}
use Rattle.dp_fixed.specs.Scale.{full_scale}
use Rattle.dp_plant.specs.declared.gains.YawGains.{YawGains}
use Rattle.dp_plant.specs.Ranges.{IsShare}
use Rattle.dp_plant.specs.YawRanges.{IsGainBetween, IsYawGains}

share_between : (least greatest k : ℤ) → pos 0 ≤ℤ least → greatest ≤ℤ full_scale → IsGainBetween least greatest k → IsShare k
share_between least greatest k low high h = record { low = omega (arith, ints, low, h.low); high = omega (arith, ints, high, h.high) }

pub k3_share : (g : YawGains) → IsYawGains g → IsShare g.k3
k3_share g h = share_between (pos 0) (pos (2 ^ 17)) g.k3 (omega (arith, ints)) (omega (arith, ints)) h.k3

pub k4_share : (g : YawGains) → IsYawGains g → IsShare g.k4
k4_share g h = share_between (pos 0) (pos (2 ^ 24)) g.k4 (omega (arith, ints)) (omega (arith, ints)) h.k4

pub leak_share : (g : YawGains) → IsYawGains g → IsShare g.leak
leak_share g h = share_between (pos (2 ^ 17)) full_scale g.leak (omega (arith, ints)) (omega (arith, ints)) h.leak

pub damp_share : (g : YawGains) → IsYawGains g → IsShare g.damp
damp_share g h = share_between (pos (2 ^ 17)) full_scale g.damp (omega (arith, ints)) (omega (arith, ints)) h.damp

pub ruleset shares = (k3_share, k4_share, leak_share, damp_share)
