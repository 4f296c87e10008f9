-- The root rounded up, from the root rounded down.
use Rattle.std.proofs.Common.{◌⊎◌, ⊎_elim, ℕ, ◌*◌, ◌^◌, ◌≤◌, ◌<◌, suc, sym, subst, arith, ℤ, pos, negsuc, ◌+ℤ◌, ◌*ℤ◌, ◌≤ℤ◌, ◌<ℤ◌, FitsSigned}
use Rattle.std.proofs.lemmas.Int.{ints}
use Rattle.std.proofs.lemmas.Nat.{mul-le}
use Rattle.std.specs.Int.{IsIsqrt}
use mir.Syntax.{w128}
use Rattle.dp_fixed.specs.Roots.{IsRootUp}

-- a number whose square is at most 2 ^ 100
pub small_root : (m : ℕ) → m * m ≤ 2 ^ 100 → m ≤ 2 ^ 50
small_root m h = ⊎_elim (λ l. l) (λ k. absurd (omega (arith, mul-le (suc (2 ^ 50)) (suc (2 ^ 50)) m m k k))) (cases_lt_or m (2 ^ 50))
  where
    cases_lt_or : (a b : ℕ) → (a ≤ b) ⊎ (suc b ≤ a)
    cases_lt_or a b = grind arith

least_nat : (m k n : ℕ) → m * m < n → n ≤ k * k → suc m ≤ k
least_nat m k n h l = ⊎_elim (λ a. absurd (omega (arith, mul-le k k m m a a))) (λ a. a) (either k m)
  where
    either : (a b : ℕ) → (a ≤ b) ⊎ (suc b ≤ a)
    either a b = grind arith

-- r rounds down, and r * r is below n: the next one is the root
pub root_next : (n r : ℤ) → pos 0 ≤ℤ n → IsIsqrt n r → (r *ℤ r) <ℤ n → IsRootUp n (r +ℤ pos 1)
root_next (pos n) r h (m, e, a, b) l = subst (λ (z : ℤ). IsRootUp (pos n) (z +ℤ pos 1)) (sym e)
    (let l' : (pos m *ℤ pos m) <ℤ pos n = subst (λ (z : ℤ). (z *ℤ z) <ℤ pos n) e l in
    let l2 : m * m < n = omega (arith, ints) in
    record { from_zero = omega (arith, ints); enough = omega (arith, ints); least = λ k k0 q. least_at m n k k0 l2 q })
  where
    least_at : (m n : ℕ) (k : ℤ) → pos 0 ≤ℤ k → m * m < n → pos n ≤ℤ (k *ℤ k) → (pos m +ℤ pos 1) ≤ℤ k
    least_at m n (pos k) k0 l q = let z : suc m ≤ k = least_nat m k n l (omega (arith, ints)) in omega (arith, ints)
    least_at m n (negsuc k) k0 l q = absurd (omega (arith, ints))
root_next (negsuc n) r h i l = absurd (omega (arith, ints))

least_same : (m k n : ℕ) → m * m ≤ n → n ≤ k * k → m ≤ k
least_same m k n h l = ⊎_elim (λ a. a) (λ a. absurd (omega (arith, mul-le (suc k) (suc k) m m a a))) (either m k)
  where
    either : (a b : ℕ) → (a ≤ b) ⊎ (suc b ≤ a)
    either a b = grind arith

-- the root rounded down, where its square is n or more
pub root_here : (n r : ℤ) → pos 0 ≤ℤ n → IsIsqrt n r → n ≤ℤ (r *ℤ r) → IsRootUp n r
root_here (pos n) r h (m, e, a, b) l = subst (λ (z : ℤ). IsRootUp (pos n) z) (sym e)
    (record { from_zero = omega (arith, ints); enough = subst (λ (z : ℤ). pos n ≤ℤ (z *ℤ z)) e l; least = λ k k0 q. least_at m n k a k0 q })
  where
    least_at : (m n : ℕ) (k : ℤ) → m * m ≤ n → pos 0 ≤ℤ k → pos n ≤ℤ (k *ℤ k) → pos m ≤ℤ k
    least_at m n (pos k) a k0 q = let z : m ≤ k = least_same m k n a (omega (arith, ints)) in omega (arith, ints)
    least_at m n (negsuc k) a k0 q = absurd (omega (arith, ints))
root_here (negsuc n) r h i l = absurd (omega (arith, ints))

pub square_fits : (n r : ℤ) → pos 0 ≤ℤ n → FitsSigned w128 n → IsIsqrt n r → FitsSigned w128 (r *ℤ r)
square_fits n r h f (m, e, a, b) = subst (λ (z : ℤ). FitsSigned w128 (z *ℤ z)) (sym e) (omega (arith, ints))
