-- A ceiling by whole parts and remainders.
use Rattle.std.proofs.Common.{◌≡◌, [], ◌∷◌, ap, ap₂, ◌∙◌, arith, ℤ, pos, neg_ℤ, ◌+ℤ◌, ◌*ℤ◌, ◌≤ℤ◌, ◌<ℤ◌}
use Rattle.std.proofs.lemmas.Int.{ints, by_lt_z}
use lib.IntN.{*ℤ-zero}
use Rattle.dp_fixed.specs.Scale.{full_scale}
use Rattle.dp_fixed.specs.Division.{floor_of, ceil_of}
use Rattle.dp_fixed.proofs.Divisions.{floor_shifted, ceil_is}
use Rattle.dp_form.proofs.Ring.{var, ◌⊕◌, ◌⊗◌, minus, ring}
use Rattle.dp_form.proofs.Order.{mul_le, mul_nonneg, le_cancel}
use Rattle.dp_cert.specs.Bound.{IsSplit}
use Rattle.dp_cert.specs.InRange.{IsUpTo}

turned : (n k d : ℤ) → neg_ℤ (n +ℤ k *ℤ d) ≡ neg_ℤ n +ℤ neg_ℤ k *ℤ d
turned n k d = ring (n ∷ (k ∷ (d ∷ []))) (minus (var 0 ⊕ var 1 ⊗ var 2)) (minus (var 0) ⊕ minus (var 1) ⊗ var 2) tt

turned_back : (f k : ℤ) → neg_ℤ (f +ℤ neg_ℤ k) ≡ neg_ℤ f +ℤ k
turned_back f k = omega (arith, ints)

-- whole numbers may be taken out of a ceiling
pub ceil_shifted : (n k d : ℤ) → pos 0 <ℤ d → ceil_of (n +ℤ k *ℤ d) d ≡ ceil_of n d +ℤ k
ceil_shifted n k d h =
    ap (λ (z : ℤ). neg_ℤ (floor_of z d)) (turned n k d)
    ∙ ap neg_ℤ (floor_shifted (neg_ℤ n) (neg_ℤ k) d h)
    ∙ turned_back (floor_of (neg_ℤ n) d) k

-- the numerator w (Q r + g), where w r is a g + x and w is b Q + y
apart : (w q r g a x b y : ℤ) → w *ℤ r ≡ a *ℤ g +ℤ x → w ≡ b *ℤ q +ℤ y → w *ℤ (q *ℤ r +ℤ g) ≡ (q *ℤ x +ℤ y *ℤ g) +ℤ (a +ℤ b) *ℤ (q *ℤ g)
apart w q r g a x b y h k =
    ring (w ∷ (q ∷ (r ∷ (g ∷ [])))) (var 0 ⊗ (var 1 ⊗ var 2 ⊕ var 3)) (var 1 ⊗ (var 0 ⊗ var 2) ⊕ var 0 ⊗ var 3) tt
    ∙ ap₂ (λ (m n : ℤ). q *ℤ m +ℤ n *ℤ g) h k
    ∙ ring (q ∷ (g ∷ (a ∷ (x ∷ (b ∷ (y ∷ [])))))) (var 0 ⊗ (var 2 ⊗ var 1 ⊕ var 3) ⊕ (var 4 ⊗ var 0 ⊕ var 5) ⊗ var 1) ((var 0 ⊗ var 3 ⊕ var 5 ⊗ var 1) ⊕ (var 2 ⊕ var 4) ⊗ (var 0 ⊗ var 1)) tt

pub rounded_is : (w r g a x b y : ℤ) → pos 0 <ℤ g → IsSplit (w *ℤ r) g a x → IsSplit w full_scale b y →
    (a +ℤ b) +ℤ ceil_of (full_scale *ℤ x +ℤ y *ℤ g) (full_scale *ℤ g) ≡ ceil_of (w *ℤ (full_scale *ℤ r +ℤ g)) (full_scale *ℤ g)
rounded_is w r g a x b y h p q =
    let positive : pos 0 <ℤ (full_scale *ℤ g) = omega (arith, ints) in
    let e = ap (λ (z : ℤ). ceil_of z (full_scale *ℤ g)) (apart w full_scale r g a x b y p.is q.is) ∙ ceil_shifted (full_scale *ℤ x +ℤ y *ℤ g) (a +ℤ b) (full_scale *ℤ g) positive in
    omega (arith, ints, e)

-- the remainders together make at most 2
pub rest_within : (x y g : ℤ) → pos 0 ≤ℤ x → x <ℤ g → pos 0 ≤ℤ y → y <ℤ full_scale → IsUpTo (pos 2) (ceil_of (full_scale *ℤ x +ℤ y *ℤ g) (full_scale *ℤ g))
rest_within x y g x0 x1 y0 y1 =
    let positive : pos 0 <ℤ (full_scale *ℤ g) = omega (arith, ints) in
    let c = ceil_is (full_scale *ℤ x +ℤ y *ℤ g) (full_scale *ℤ g) positive in
    let low = mul_nonneg y g y0 (omega (arith, ints)) in
    let more = mul_le g y full_scale (omega (arith, ints)) (omega (arith, ints)) in
    let e1 = ring (y ∷ (g ∷ [])) (var 1 ⊗ var 0) (var 0 ⊗ var 1) tt in
    let e2 = ring (full_scale ∷ (g ∷ [])) (var 1 ⊗ var 0) (var 0 ⊗ var 1) tt in
    let z = ceil_of (full_scale *ℤ x +ℤ y *ℤ g) (full_scale *ℤ g) in
    let g0 : pos 0 <ℤ g = omega (arith, ints) in
    record { low = floor_low z (full_scale *ℤ g) positive (omega (arith, ints, c.above)); high = floor_high z (full_scale *ℤ g) positive (omega (arith, ints, c.below)) }
  where
    floor_low : (z d : ℤ) → pos 0 <ℤ d → pos 0 ≤ℤ (z *ℤ d) → pos 0 ≤ℤ z
    floor_low z d h k =
        let e = ring (z ∷ (d ∷ [])) (var 1 ⊗ var 0) (var 0 ⊗ var 1) tt in
        let n = *ℤ-zero d in
        le_cancel d (pos 0) z h (omega (arith, ints))

    floor_high : (z d : ℤ) → pos 0 <ℤ d → (z *ℤ d) <ℤ (pos 3 *ℤ d) → z ≤ℤ pos 2
    floor_high z d h k = by_lt_z (pos 2) z
        (λ l.
        let m = mul_le d (pos 3) z (omega (arith, ints)) (omega (arith, ints)) in
        let e = ring (z ∷ (d ∷ [])) (var 1 ⊗ var 0) (var 0 ⊗ var 1) tt in
        absurd (omega (arith, ints)))
        (λ l. l)
