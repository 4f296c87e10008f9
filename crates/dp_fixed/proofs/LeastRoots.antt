-- The least root, and the root rounded up.
use Rattle.std.proofs.Common.{◌≡◌, ℕ, zero, suc, ◌+◌, ◌*◌, ◌≤◌, ◌<◌, ◌^◌, true, false, ap, inl, inr, arith, ℤ, pos, negsuc, ◌≤ℤ◌}
use Rattle.std.specs.Prelude.{nat_le}
use Rattle.std.proofs.lemmas.Bool.{cases_lt, le-leb, lt-leb}
use Rattle.std.proofs.lemmas.Int.{ints}
use Rattle.dp_fixed.specs.Roots.{IsRootUp, least_root, root_of}

record IsLeast (n r : ℕ) : Type 0 where
  pub enough : n ≤ r * r
  pub least : (k : ℕ) → n ≤ k * k → r ≤ k

square_next : (r : ℕ) → (r + 1) * (r + 1) ≡ r * r + r + r + 1
square_next r = grind arith

is_least : (n : ℕ) → IsLeast n (least_root n)
unfolding least_root
is_least zero = record { enough = omega arith; least = λ k h. omega arith }
is_least (suc n) = elim (cases_lt (least_root n * least_root n) (suc n)) [
  | inl less ↦
      let i = is_least n in
      let test : nat_le (suc n) (least_root n * least_root n) ≡ false = lt-leb _ _ less in
      let next = square_next (least_root n) in
      rw test (record {
        enough = omega (arith, i.enough);
        least = λ k h. past k (least_root n) (i.least k (omega arith)) h less;
      })
  | inr more ↦
      let i = is_least n in
      let test : nat_le (suc n) (least_root n * least_root n) ≡ true = le-leb _ _ more in
      rw test (record { enough = more; least = λ k h. i.least k (omega arith) })
]
  where
    past : (k r : ℕ) {n : ℕ} → r ≤ k → suc n ≤ k * k → r * r < suc n → r + 1 ≤ k
    past k r a b c = elim (cases_lt r k) [ inl l ↦ omega arith | inr g ↦ absurd (let e : k ≡ r = omega arith in omega (arith, ap (λ (z : ℕ). z * z) e)) ]

-- a root rounded up is the least one
pub root_is : (n r : ℤ) → IsRootUp n r → r ≡ root_of n
root_is (pos n) (pos r) h =
    let i = is_least n in
    let a : r ≤ least_root n = omega (arith, ints, h.least (pos (least_root n)) (omega (arith, ints)) (omega (arith, ints, i.enough))) in
    let b : least_root n ≤ r = i.least r (omega (arith, ints, h.enough)) in
    omega (arith, ints)
root_is (pos n) (negsuc r) h = absurd (omega (arith, ints, h.from_zero))
root_is (negsuc n) r h =
    let a = h.least (pos 0) (omega (arith, ints)) (omega (arith, ints)) in
    omega (arith, ints, h.from_zero, a)

pub root_small : (n r : ℤ) → IsRootUp n r → n ≤ℤ pos (2 ^ 42) → r ≤ℤ pos (2 ^ 21)
root_small n r h k = h.least (pos (2 ^ 21)) (omega (arith, ints)) (omega (arith, ints))
