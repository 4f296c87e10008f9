-- The few laws of products that floors rest on.
use Rattle.std.proofs.Common.{◌≡◌, ℕ, ◌*◌, ap, ◌∙◌, arith, ℤ, pos, negsuc, neg_ℤ, ◌+ℤ◌, ◌-ℤ◌, ◌*ℤ◌, ◌≤ℤ◌}
use Rattle.std.proofs.lemmas.Int.{ints}
use borrow.Author.Differences.{up, down, same_in, product_is, sum_is_lem}
use lib.IntN.{*ℤ_comm}

pub product_turned : (q d : ℤ) → d *ℤ q ≡ q *ℤ d
product_turned q d = *ℤ_comm d q

pub product_of_sum : (q k d : ℤ) → (q +ℤ k) *ℤ d ≡ q *ℤ d +ℤ k *ℤ d
product_of_sum q k d = same_in _ _ (omega (
  arith,
  product_is (q +ℤ k) d,
  product_is q d,
  product_is k d,
  sum_is_lem (q *ℤ d) (k *ℤ d),
  ap (λ (x : ℕ). x * up d) (sum_is_lem q k),
  ap (λ (x : ℕ). x * down d) (sum_is_lem q k),
))

no_times : (d : ℤ) → pos 0 *ℤ d ≡ pos 0
no_times (pos d) = omega (arith, ints)
no_times (negsuc d) = omega (arith, ints)

one_time : (d : ℤ) → pos 1 *ℤ d ≡ d
one_time (pos d) = omega (arith, ints)
one_time (negsuc d) = omega (arith, ints)

pub product_next : (p d : ℤ) → d *ℤ (p +ℤ pos 1) ≡ p *ℤ d +ℤ d
product_next p d = product_turned (p +ℤ pos 1) d ∙ product_of_sum p (pos 1) d ∙ ap (λ (x : ℤ). p *ℤ d +ℤ x) (one_time d)

pub negated_product : (q d : ℤ) → neg_ℤ q *ℤ d ≡ neg_ℤ (q *ℤ d)
negated_product q d =
    let none : neg_ℤ q +ℤ q ≡ pos 0 = omega (arith, ints) in
    let split = product_of_sum (neg_ℤ q) q d in
    let sum = ap (λ (x : ℤ). x *ℤ d) none ∙ no_times d in
    omega (arith, ints)

mul_nonneg : (a b : ℤ) → pos 0 ≤ℤ a → pos 0 ≤ℤ b → pos 0 ≤ℤ (a *ℤ b)
mul_nonneg (pos a) (pos b) h k = omega (arith, ints)
mul_nonneg (pos a) (negsuc b) h k = absurd (omega (arith, ints))
mul_nonneg (negsuc a) b h k = absurd (omega (arith, ints))

-- a factor from 0 up keeps an order
pub mul_le : (c a b : ℤ) → pos 0 ≤ℤ c → a ≤ℤ b → (c *ℤ a) ≤ℤ (c *ℤ b)
mul_le c a b h k =
    let gap : pos 0 ≤ℤ ((b -ℤ a) *ℤ c) = mul_nonneg (b -ℤ a) c (omega (arith, ints)) h in
    let split = product_of_sum (b -ℤ a) a c in
    let whole : (b -ℤ a) +ℤ a ≡ b = omega (arith, ints) in
    let is = ap (λ (x : ℤ). x *ℤ c) whole in
    let left = product_turned a c in
    let right = product_turned b c in
    omega (arith, ints)
