-- The first number in a row that passes a test.
use Rattle.std.proofs.Common.{◌≡◌, refl, ◌∙◌, ap, ◌≤◌, ◌<◌, ◌⊎◌, ⊎_elim, ℕ, ◌+◌, zero, suc, subst, arith, Bool, true, false, cond, Option, Some, None, find}
use Rattle.std.specs.List.{range_with_len}

-- m is the first of n numbers from a number on that passes
pub record IsFirst (p : ℕ → Bool) (from n m : ℕ) : Type 0 where
  pub low : from ≤ m
  pub high : m < from + n
  pub passes : p m ≡ true
  pub before : (k : ℕ) → from ≤ k → k < m → p k ≡ false

pub found : (p : ℕ → Bool) (n from m : ℕ) → from ≤ m → m < from + n → p m ≡ true → ((k : ℕ) → from ≤ k → k < m → p k ≡ false) → find p (range_with_len from n) ≡ Some m
found p zero from m low high passes before = absurd (omega (arith, low, high))
found p (suc n) from m low high passes before = ⊎_elim
    (λ (same : from ≡ m). let here : p from ≡ true = ap p same ∙ passes in rw here (ap Some same))
    (λ (later : from + 1 ≤ m). let not_here : p from ≡ false = before from (omega arith) (omega (arith, later)) in rw not_here (found p n (from + 1) m later (omega (arith, high)) passes (λ k a b. before k (omega (arith, a)) b)))
    (either from m low)
  where
    either : (a b : ℕ) → a ≤ b → (a ≡ b) ⊎ (a + 1 ≤ b)
    either a b h = grind arith

pub lost : (p : ℕ → Bool) (n from : ℕ) → ((k : ℕ) → from ≤ k → k < from + n → p k ≡ false) → find p (range_with_len from n) ≡ None
lost p zero from none = refl
lost p (suc n) from none =
    let not_here : p from ≡ false = none from (omega arith) (omega arith) in rw not_here (lost p n (from + 1) (λ k a b. none k (omega (arith, a)) (omega (arith, b))))

pub found_first : (p : ℕ → Bool) (n from m : ℕ) → find p (range_with_len from n) ≡ Some m → IsFirst p from n m
found_first p zero from m e = absurd (none_is m e)
  where
    none_is : (m : ℕ) → None ≡ Some m → ⊥
    none_is m e = cc
found_first p (suc n) from m e = step (p from) refl (found_first p n (from + 1) m) e
  where
    some_is : (a b : ℕ) → Some a ≡ Some b → a ≡ b
    some_is a b e = cc

    either : (a b : ℕ) → a ≤ b → (a ≡ b) ⊎ (a + 1 ≤ b)
    either a b h = grind arith

    step : (b : Bool) → p from ≡ b → (find p (range_with_len (from + 1) n) ≡ Some m → IsFirst p (from + 1) n m) → cond b (Some from) (find p (range_with_len (from + 1) n)) ≡ Some m → IsFirst p from (suc n) m
    step true f rest e =
        let same : from ≡ m = some_is from m e in
        record { low = omega (arith, same); high = omega (arith, same); passes = subst (λ k. p k ≡ true) same f; before = λ k a b. absurd (omega (arith, same, a, b)) }
    step false f rest e =
        let r = rest e in
        let low = r.low in
        let high = r.high in
        record { low = omega (arith, low); high = omega (arith, high); passes = r.passes; before = λ k a b. ⊎_elim (λ s. subst (λ i. p i ≡ false) s f) (λ l. r.before k l b) (either from k a) }
