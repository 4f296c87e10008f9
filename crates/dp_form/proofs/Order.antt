-- The order of ℤ and its products.
use Rattle.std.proofs.Common.{◌≡◌, zero, suc, [], refl, ◌∷◌, arith, ℤ, pos, negsuc, ◌+ℤ◌, ◌-ℤ◌, ◌*ℤ◌, ◌≤ℤ◌, ◌<ℤ◌}
use Rattle.std.proofs.lemmas.Int.{ints, by_lt_z}
use Rattle.dp_form.proofs.RingLaws.{*ℤ-+ℤ}
use Rattle.dp_form.proofs.Ring.{var, num, ◌⊕◌, ◌⊗◌, minus, ring}

pub square_nonneg : (a : ℤ) → pos 0 ≤ℤ (a *ℤ a)
square_nonneg (pos n) = omega (arith, ints)
square_nonneg (negsuc n) = omega (arith, ints)

pub mul_nonneg : (a b : ℤ) → pos 0 ≤ℤ a → pos 0 ≤ℤ b → pos 0 ≤ℤ (a *ℤ b)
mul_nonneg (pos a) (pos b) h k = omega (arith, ints)
mul_nonneg (pos a) (negsuc b) h k = absurd (omega (arith, ints))
mul_nonneg (negsuc a) b h k = absurd (omega (arith, ints))

times_gap : (c a b : ℤ) → c *ℤ (b -ℤ a) ≡ c *ℤ b -ℤ c *ℤ a
times_gap c a b = ring (c ∷ (a ∷ (b ∷ []))) (var 0 ⊗ (var 2 ⊕ minus (var 1))) (var 0 ⊗ var 2 ⊕ minus (var 0 ⊗ var 1)) tt

pub mul_le : (c a b : ℤ) → pos 0 ≤ℤ c → a ≤ℤ b → (c *ℤ a) ≤ℤ (c *ℤ b)
mul_le c a b h k =
    let g : pos 0 ≤ℤ (b -ℤ a) = omega (arith, ints) in
    let p : pos 0 ≤ℤ (c *ℤ (b -ℤ a)) = mul_nonneg c (b -ℤ a) h g in
    let q : pos 0 ≤ℤ (c *ℤ b -ℤ c *ℤ a) = rw times_gap at p in
    omega (arith, ints)

-- a factor above 0 may be dropped
pub le_cancel : (c a b : ℤ) → pos 0 <ℤ c → (c *ℤ a) ≤ℤ (c *ℤ b) → a ≤ℤ b
le_cancel c a b h k = by_lt_z b a
    (λ l. let g : (b +ℤ pos 1) ≤ℤ a = omega (arith, ints) in
    let p : (c *ℤ (b +ℤ pos 1)) ≤ℤ (c *ℤ a) = mul_le c (b +ℤ pos 1) a (omega (arith, ints)) g in
    let q : (c *ℤ b +ℤ c *ℤ pos 1) ≤ℤ (c *ℤ a) = rw *ℤ-+ℤ at p in
    absurd (omega (arith, ints)))
    (λ l. l)

pub mul_pos : (a b : ℤ) → pos 0 <ℤ a → pos 0 <ℤ b → pos 0 <ℤ (a *ℤ b)
mul_pos (pos zero) b h k = absurd (omega (arith, ints))
mul_pos (pos (suc a)) (pos zero) h k = absurd (omega (arith, ints))
mul_pos (pos (suc a)) (pos (suc b)) h k = omega (arith, ints)
mul_pos (pos (suc a)) (negsuc b) h k = absurd (omega (arith, ints))
mul_pos (negsuc a) b h k = absurd (omega (arith, ints))

-- two numbers from 0 up are ordered as their squares are
pub square_le_cancel : (a b : ℤ) → pos 0 ≤ℤ b → (a *ℤ a) ≤ℤ (b *ℤ b) → a ≤ℤ b
square_le_cancel a b h k = by_lt_z b a
    (λ l. let p : (a *ℤ (b +ℤ pos 1)) ≤ℤ (a *ℤ a) = mul_le a (b +ℤ pos 1) a (omega (arith, ints)) (omega (arith, ints)) in
    let e : a *ℤ (b +ℤ pos 1) ≡ a *ℤ b +ℤ a = ring (a ∷ (b ∷ [])) (var 0 ⊗ (var 1 ⊕ num (pos 1))) (var 0 ⊗ var 1 ⊕ var 0) tt in
    let q : (b *ℤ b) ≤ℤ (b *ℤ a) = mul_le b b a h (omega (arith, ints)) in
    let c : b *ℤ a ≡ a *ℤ b = ring (a ∷ (b ∷ [])) (var 1 ⊗ var 0) (var 0 ⊗ var 1) tt in
    absurd (omega (arith, ints)))
    (λ l. l)

-- a square at most 0 is 0's
pub square_zero : (a : ℤ) → (a *ℤ a) ≤ℤ pos 0 → a ≡ pos 0
square_zero (pos zero) h = refl
square_zero (pos (suc n)) h = absurd (omega (arith, ints))
square_zero (negsuc n) h = absurd (omega (arith, ints))
