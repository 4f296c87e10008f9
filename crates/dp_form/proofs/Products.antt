-- The range of a square's part of an entry, and of a number that is cast to more bits.
use Rattle.std.proofs.Common.{ℕ, ◌*◌, ◌^◌, ◌≤◌, arith, ℤ, ◌*ℤ◌}
use Rattle.std.proofs.lemmas.Int.{ints, unsigned_abs-mul}
use Rattle.std.specs.Int.RustNames.{unsigned_abs}
use Rattle.std.proofs.lemmas.Nat.{mul-le}
use Rattle.dp_form.specs.Range.{IsWithin}

pub abs_le : (n : ℕ) (a : ℤ) → IsWithin n a → unsigned_abs a ≤ n
abs_le n a h = omega (arith, ints)

pub within_abs : (n : ℕ) (a : ℤ) → unsigned_abs a ≤ n → IsWithin n a
within_abs n a h = record { low = omega (arith, ints); high = omega (arith, ints) }

-- the product of two numbers within m and n is within m n
pub product_abs : (m n : ℕ) (a b : ℤ) → IsWithin m a → IsWithin n b → unsigned_abs (a *ℤ b) ≤ m * n
product_abs m n a b h k = rw unsigned_abs-mul (mul-le (unsigned_abs a) (unsigned_abs b) m n (abs_le m a h) (abs_le n b k))

pub product_within : (m n : ℕ) (a b : ℤ) → IsWithin m a → IsWithin n b → IsWithin (m * n) (a *ℤ b)
product_within m n a b h k = within_abs (m * n) (a *ℤ b) (product_abs m n a b h k)

pub two_within : (a b : ℤ) → IsWithin (2 ^ 40) a → IsWithin (2 ^ 40) b → IsWithin (2 ^ 80) (a *ℤ b)
two_within a b h k = product_within (2 ^ 40) (2 ^ 40) a b h k

pub three_within : (d a b : ℤ) → IsWithin (2 ^ 40) d → IsWithin (2 ^ 40) a → IsWithin (2 ^ 40) b → IsWithin (2 ^ 120) (d *ℤ (a *ℤ b))
three_within d a b g h k = product_within (2 ^ 40) (2 ^ 80) d (a *ℤ b) g (two_within a b h k)
