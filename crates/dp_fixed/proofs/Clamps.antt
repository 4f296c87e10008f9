-- Clamps and the middle of three.
use Rattle.std.proofs.Common.{◌≡◌, ◌≤◌, ℕ, ℤ, ◌-ℤ◌, ◌≤ℤ◌, unsigned_abs, arith}
use Rattle.std.proofs.lemmas.Int.{ints, clamps}
use Rattle.dp_fixed.specs.Order.{IsMiddle, clamp_of, mid3_of}

pub clamp_within : (x lo hi : ℤ) → lo ≤ℤ hi → (lo ≤ℤ clamp_of x lo hi) × (clamp_of x lo hi ≤ℤ hi)
clamp_within x lo hi le = (omega (arith, ints, clamps), omega (arith, ints, clamps))

pub clamp_inside : (x lo hi : ℤ) → lo ≤ℤ x → x ≤ℤ hi → clamp_of x lo hi ≡ x
clamp_inside x lo hi low high = omega (arith, ints, clamps)

pub clamp_monotone : (x y lo hi : ℤ) → x ≤ℤ y → clamp_of x lo hi ≤ℤ clamp_of y lo hi
clamp_monotone x y lo hi le = omega (arith, ints, clamps)

pub clamp_no_farther : (x y lo hi : ℤ) → unsigned_abs (clamp_of x lo hi -ℤ clamp_of y lo hi) ≤ unsigned_abs (x -ℤ y)
clamp_no_farther x y lo hi = omega (arith, ints, clamps)

pub middle_is : (a b c : ℤ) → IsMiddle a b c (mid3_of a b c)
middle_is a b c = record {
  first_two = record { low = omega (arith, ints, clamps); high = omega (arith, ints, clamps) };
  last_two = record { low = omega (arith, ints, clamps); high = omega (arith, ints, clamps) };
  outer_two = record { low = omega (arith, ints, clamps); high = omega (arith, ints, clamps) };
}

-- the middle of three is as small as they are
pub middle_small : (a b c : ℤ) (most : ℕ) → unsigned_abs a ≤ most → unsigned_abs b ≤ most → unsigned_abs c ≤ most → unsigned_abs (mid3_of a b c) ≤ most
middle_small a b c most first second third = omega (arith, ints, clamps)
