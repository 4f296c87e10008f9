-- A root rounded up is large enough.
use Rattle.std.proofs.Common.{◌≡◌, ℕ, zero, suc, ◌+◌, ◌*◌, ◌≤◌, true, false, inl, inr, arith, ℤ, pos, negsuc, ◌*ℤ◌, ◌≤ℤ◌}
use Rattle.std.specs.Prelude.{nat_le}
use Rattle.std.proofs.lemmas.Bool.{cases_lt, le-leb, lt-leb}
use Rattle.std.proofs.lemmas.Int.{ints}
use Rattle.dp_fixed.specs.Roots.{least_root, root_of}

square_next : (r : ℕ) → (r + 1) * (r + 1) ≡ r * r + r + r + 1
square_next r = grind arith

least_enough : (n : ℕ) → n ≤ least_root n * least_root n
unfolding least_root
least_enough zero = omega arith
least_enough (suc n) = elim (cases_lt (least_root n * least_root n) (suc n)) [
  | inl less ↦
      let test : nat_le (suc n) (least_root n * least_root n) ≡ false = lt-leb _ _ less in
      let next = square_next (least_root n) in
      rw test (omega (arith, least_enough n))
  | inr more ↦ let test : nat_le (suc n) (least_root n * least_root n) ≡ true = le-leb _ _ more in rw test more
]

pub root_enough : (n : ℤ) → n ≤ℤ (root_of n *ℤ root_of n)
root_enough (pos n) = omega (arith, ints, least_enough n)
root_enough (negsuc n) = omega (arith, ints)

pub root_low : (n : ℤ) → pos 0 ≤ℤ root_of n
root_low (pos n) = omega (arith, ints)
root_low (negsuc n) = omega (arith, ints)
