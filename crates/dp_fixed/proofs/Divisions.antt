-- Floors and ceilings, by cases on the sign, and what follows from their two inequalities.
use Rattle.std.proofs.Common.{◌≡◌, arith, ℤ, pos, negsuc, neg_ℤ, ◌+ℤ◌, ◌*ℤ◌, ◌≤ℤ◌, ◌<ℤ◌}
use Rattle.std.proofs.lemmas.Int.{ints, by_lt_z}
use Rattle.dp_fixed.proofs.Multiples.{mul_le, negated_product, product_next, product_of_sum, product_turned}
use Rattle.dp_fixed.specs.Division.{IsCeil, IsFloor, ceil_of, floor_of}

floor_below : (n d : ℤ) → pos 0 <ℤ d → (floor_of n d *ℤ d) ≤ℤ n
floor_below (pos a) (pos b) h = omega (arith, ints)
floor_below (negsuc a) (pos b) h = omega (arith, ints)
floor_below n (negsuc b) h = absurd (omega (arith, ints))

floor_above : (n d : ℤ) → pos 0 <ℤ d → n <ℤ (floor_of n d *ℤ d +ℤ d)
floor_above (pos a) (pos b) h = omega (arith, ints)
floor_above (negsuc a) (pos b) h = omega (arith, ints)
floor_above n (negsuc b) h = absurd (omega (arith, ints))

pub floor_is : (n d : ℤ) → pos 0 <ℤ d → IsFloor n d (floor_of n d)
floor_is n d h = record { below = floor_below n d h; above = floor_above n d h }

-- a multiple of d that is at most n is not past the floor
pub floor_greatest : (n m d p q : ℤ) → pos 0 <ℤ d → n ≤ℤ m → (q *ℤ d) ≤ℤ n → m <ℤ (p *ℤ d +ℤ d) → q ≤ℤ p
floor_greatest n m d p q h nm low high = by_lt_z p q
    (λ less.
    let more : (d *ℤ (p +ℤ pos 1)) ≤ℤ (d *ℤ q) = mul_le d (p +ℤ pos 1) q (omega (arith, ints)) (omega (arith, ints)) in
    let next = product_next p d in
    let turned = product_turned q d in
    absurd (omega (arith, ints)))
    (λ at_most. at_most)

pub floor_only : (n d q : ℤ) → pos 0 <ℤ d → IsFloor n d q → q ≡ floor_of n d
floor_only n d q h f =
    let g = floor_is n d h in
    let up = floor_greatest n n d (floor_of n d) q h (omega (arith, ints)) f.below g.above in
    let down = floor_greatest n n d q (floor_of n d) h (omega (arith, ints)) g.below f.above in
    omega (arith, ints, up, down)

pub floor_monotone : (n m d : ℤ) → pos 0 <ℤ d → n ≤ℤ m → floor_of n d ≤ℤ floor_of m d
floor_monotone n m d h le = floor_greatest n m d (floor_of m d) (floor_of n d) h le (floor_is n d h).below (floor_is m d h).above

sym_floor : (a b : ℤ) → a ≡ b → b ≡ a
sym_floor a b e = omega (arith, ints, e)

pub floor_shifted : (n k d : ℤ) → pos 0 <ℤ d → floor_of (n +ℤ k *ℤ d) d ≡ floor_of n d +ℤ k
floor_shifted n k d h =
    let f = floor_is n d h in
    let split = product_of_sum (floor_of n d) k d in
    let is : IsFloor (n +ℤ k *ℤ d) d (floor_of n d +ℤ k) = record {
      below = omega (arith, ints, split, f.below);
      above = omega (arith, ints, split, f.above);
    } in
    sym_floor _ _ (floor_only (n +ℤ k *ℤ d) d (floor_of n d +ℤ k) h is)

pub ceil_is : (n d : ℤ) → pos 0 <ℤ d → IsCeil n d (ceil_of n d)
ceil_is n d h =
    let f = floor_is (neg_ℤ n) d h in
    let turned = negated_product (floor_of (neg_ℤ n) d) d in
    record { above = omega (arith, ints, turned, f.below); below = omega (arith, ints, turned, f.above) }
