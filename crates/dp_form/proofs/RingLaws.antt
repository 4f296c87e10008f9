-- The laws of + and * over ℤ that std lacks: * is associative, and distributes over + on both sides.
use Rattle.std.proofs.Common.{◌≡◌, ℕ, ◌*◌, sym, ap, ◌∙◌, arith, ℤ, ◌+ℤ◌, ◌*ℤ◌}
use Rattle.std.proofs.lemmas.Int.{ints}
use borrow.Author.Differences.{up, down, same_in, product_is, sum_is_lem}
use lib.IntN.{*ℤ_comm, +ℤ_comm, +ℤ_assoc}

pub *ℤ_assoc : (a b c : ℤ) → (a *ℤ b) *ℤ c ≡ a *ℤ (b *ℤ c)
*ℤ_assoc a b c = same_in _ _ (omega (
  arith,
  product_is (a *ℤ b) c,
  product_is a (b *ℤ c),
  ap (λ (x : ℕ). x * up c) (product_is a b).0,
  ap (λ (x : ℕ). x * down c) (product_is a b).0,
  ap (λ (x : ℕ). x * up c) (product_is a b).1,
  ap (λ (x : ℕ). x * down c) (product_is a b).1,
  ap (λ (x : ℕ). up a * x) (product_is b c).0,
  ap (λ (x : ℕ). down a * x) (product_is b c).0,
  ap (λ (x : ℕ). up a * x) (product_is b c).1,
  ap (λ (x : ℕ). down a * x) (product_is b c).1,
))

pub +ℤ-*ℤ : (a b c : ℤ) → (a +ℤ b) *ℤ c ≡ a *ℤ c +ℤ b *ℤ c
+ℤ-*ℤ a b c = same_in _ _ (omega (
  arith,
  product_is (a +ℤ b) c,
  product_is a c,
  product_is b c,
  sum_is_lem (a *ℤ c) (b *ℤ c),
  ap (λ (x : ℕ). x * up c) (sum_is_lem a b),
  ap (λ (x : ℕ). x * down c) (sum_is_lem a b),
))

pub *ℤ-+ℤ : (a b c : ℤ) → a *ℤ (b +ℤ c) ≡ a *ℤ b +ℤ a *ℤ c
*ℤ-+ℤ a b c = same_in _ _ (omega (
  arith,
  product_is a (b +ℤ c),
  product_is a b,
  product_is a c,
  sum_is_lem (a *ℤ b) (a *ℤ c),
  ap (λ (x : ℕ). up a * x) (sum_is_lem b c),
  ap (λ (x : ℕ). down a * x) (sum_is_lem b c),
))

pub *ℤ_left_comm : (a b c : ℤ) → a *ℤ (b *ℤ c) ≡ b *ℤ (a *ℤ c)
*ℤ_left_comm a b c = sym (*ℤ_assoc a b c) ∙ ap (λ (x : ℤ). x *ℤ c) (*ℤ_comm a b) ∙ *ℤ_assoc b a c

pub +ℤ_left_comm : (a b c : ℤ) → a +ℤ (b +ℤ c) ≡ b +ℤ (a +ℤ c)
+ℤ_left_comm a b c = omega (arith, ints)

-- for `simp ac`: an identity where no two terms are collected and nothing is subtracted
pub ruleset ac = (+ℤ-*ℤ, *ℤ-+ℤ, *ℤ_assoc, *ℤ_comm, *ℤ_left_comm, +ℤ_assoc, +ℤ_comm, +ℤ_left_comm)
