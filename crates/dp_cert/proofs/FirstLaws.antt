-- The first number that a test holds of.
use Rattle.std.proofs.Common.{◌≡◌, ℕ, zero, suc, ◌+◌, ◌<◌, ◌≤◌, Bool, true, false, Option, Some, None, if◌then◌else◌, refl, sym, ap, ◌∙◌, inl, inr, arith}
use Rattle.std.proofs.lemmas.Bool.{cases_lt}
use Rattle.dp_cert.specs.First.{first_from, first_below}

from-none : (p : ℕ → Bool) (i n : ℕ) → ((k : ℕ) → i ≤ k → k < i + n → p k ≡ false) → first_from p i n ≡ None
unfolding first_from
from-none p i zero h = refl
from-none p i (suc n) h =
    let here : p i ≡ false = h i (omega arith) (omega arith) in
    rw here (from-none p (i + 1) n (λ k a b. h k (omega arith) (omega arith)))

from-some : (p : ℕ → Bool) (i n j : ℕ) → i ≤ j → j < i + n → p j ≡ true → ((k : ℕ) → i ≤ k → k < j → p k ≡ false) → first_from p i n ≡ Some j
unfolding first_from
from-some p i zero j a b t h = absurd (omega arith)
from-some p i (suc n) j a b t h = elim (cases_lt i j) [
  | inl less ↦ let here : p i ≡ false = h i (omega arith) less in
      rw here (from-some p (i + 1) n j (omega arith) (omega arith) t (λ k c d. h k (omega arith) d))
  | inr more ↦ let same : i ≡ j = omega arith in let here : p i ≡ true = ap p same ∙ t in rw here (ap Some same)
]

pub first_none : (n : ℕ) (p : ℕ → Bool) → ((k : ℕ) → k < n → p k ≡ false) → first_below n p ≡ None
unfolding first_below
first_none n p h = from-none p 0 n (λ k a b. h k (omega arith))

pub first_some : (n : ℕ) (p : ℕ → Bool) (j : ℕ) → j < n → p j ≡ true → ((k : ℕ) → k < j → p k ≡ false) → first_below n p ≡ Some j
unfolding first_below
first_some n p j b t h = from-some p 0 n j (omega arith) (omega arith) t (λ k c d. h k d)

-- and where none is found, it holds of none
none-from : (p : ℕ → Bool) (i n k : ℕ) → first_from p i n ≡ None → i ≤ k → k < i + n → p k ≡ false
unfolding first_from
none-from p i zero k h a b = absurd (omega arith)
none-from p i (suc n) k h a b =
    let here = test-false (p i) (Some i) (first_from p (i + 1) n) h refl in
    elim (cases_lt i k) [
      | inl less ↦ none-from p (i + 1) n k here.1 (omega arith) (omega arith)
      | inr more ↦ let same : i ≡ k = omega arith in ap p (sym same) ∙ here.0
    ]
  where
    test-false : (t : Bool) (s r : Option ℕ) → (if t then s else r) ≡ None → s ≡ Some i → (t ≡ false) × (r ≡ None)
    test-false true s r e f = absurd (cc)
    test-false false s r e f = (refl, e)

pub none_below : (n : ℕ) (p : ℕ → Bool) → first_below n p ≡ None → (k : ℕ) → k < n → p k ≡ false
unfolding first_below
none_below n p h k b = none-from p 0 n k h (omega arith) (omega arith)
