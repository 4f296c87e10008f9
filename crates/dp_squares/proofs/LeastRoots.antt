-- That no number from 0 on below a made root has a square that is large enough.
use Rattle.std.proofs.Common.{◌≡◌, ℕ, zero, suc, ◌+◌, ◌*◌, ◌≤◌, ◌<◌, ◌^◌, true, false, ap, inl, inr, arith, ℤ, pos, negsuc, ◌*ℤ◌, ◌≤ℤ◌}
use Rattle.std.specs.Prelude.{int_le, nat_le}
use Rattle.std.proofs.lemmas.Bool.{cases_lt, le-leb, lt-leb}
use Rattle.std.proofs.lemmas.Int.{ints}
use Rattle.dp_fixed.specs.Roots.{least_root, root_of}
use Rattle.dp_cert.proofs.Lights.{le_true}
use Rattle.dp_cert.proofs.Roots.{root_enough, root_low}
use Rattle.dp_squares.specs.Made.{made_root}
use Rattle.dp_squares.specs.Roots.{IsLeastRoot}

past : (k r n : ℕ) → r ≤ k → suc n ≤ k * k → r * r < suc n → r + 1 ≤ k
past k r n a b c = elim (cases_lt r k) [ inl l ↦ omega arith | inr g ↦ absurd (let e : k ≡ r = omega arith in omega (arith, ap (λ (z : ℕ). z * z) e)) ]

least_root-least : (n k : ℕ) → n ≤ k * k → least_root n ≤ k
unfolding least_root
least_root-least zero k h = omega arith
least_root-least (suc n) k h = elim (cases_lt (least_root n * least_root n) (suc n)) [
  | inl less ↦
      let test : nat_le (suc n) (least_root n * least_root n) ≡ false = lt-leb _ _ less in
      rw test (past k (least_root n) n (least_root-least n k (omega arith)) h less)
  | inr more ↦
      let test : nat_le (suc n) (least_root n * least_root n) ≡ true = le-leb _ _ more in
      rw test (least_root-least n k (omega arith))
]

root_of-least : (n k : ℤ) → pos 0 ≤ℤ k → n ≤ℤ (k *ℤ k) → root_of n ≤ℤ k
root_of-least (pos n) (pos k) z h = omega (arith, ints, least_root-least n k (omega (arith, ints, h)))
root_of-least (pos n) (negsuc k) z h = absurd (omega (arith, ints, z))
root_of-least (negsuc n) k z h = z

pub made_root-least : (n kept : ℤ) → n ≤ℤ pos (2 ^ 100) → IsLeastRoot n (made_root n kept)
made_root-least n kept h =
    let test : int_le n (pos (2 ^ 100)) ≡ true = le_true n (pos (2 ^ 100)) h in
    rw test (record { from_zero = root_low n; enough = root_enough n; least = root_of-least n })
