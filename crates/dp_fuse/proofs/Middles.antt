-- The middle of three numbers within ±2^44 lies there too.
use Rattle.std.proofs.Common.{◌≡◌, ◌≤◌, ◌^◌, ℤ, unsigned_abs}
use Rattle.dp_fixed.specs.{mid3_of}
use Rattle.dp_fixed.proofs.Clamps.{middle_small}

pub middle_within : (m a b c : ℤ) → m ≡ mid3_of a b c → unsigned_abs a ≤ 2 ^ 44 → unsigned_abs b ≤ 2 ^ 44 → unsigned_abs c ≤ 2 ^ 44 → unsigned_abs m ≤ 2 ^ 44
middle_within m a b c is first second third = rw is (middle_small a b c (2 ^ 44) first second third)
