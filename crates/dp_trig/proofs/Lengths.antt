-- A rotation cut toward zero never gets longer than the scale.
use Rattle.std.proofs.Common.{◌≡◌, ℕ, zero, suc, [], ◌∷◌, arith, ℤ, pos, negsuc, neg_ℤ, ◌+ℤ◌, ◌-ℤ◌, ◌*ℤ◌, ◌≤ℤ◌, ◌<ℤ◌}
use Rattle.std.proofs.lemmas.Int.{ints}
use Rattle.std.specs.Int.RustNames.{int_div}
use lib.IntN.{*ℤ_comm}
use Rattle.dp_form.proofs.Ring.{var, ◌⊕◌, ◌⊗◌, minus, ring}
use Rattle.dp_form.proofs.Order.{square_nonneg, mul_le, le_cancel, mul_pos, square_le_cancel}
use Rattle.dp_fixed.specs.{full_scale}
use Rattle.dp_trig.specs.Rotation.{Pair, turned, repeated, IsShort, PartsWithin}

-- of two numbers from 0 up, the smaller one's square is the smaller
ordered_square : (x y : ℤ) → pos 0 ≤ℤ y → y ≤ℤ x → (y *ℤ y) ≤ℤ (x *ℤ x)
ordered_square x y h k =
    let p : (y *ℤ y) ≤ℤ (y *ℤ x) = mul_le y y x h k in
    let q : (x *ℤ y) ≤ℤ (x *ℤ x) = mul_le x y x (omega (arith, ints)) k in
    let e : y *ℤ x ≡ x *ℤ y = *ℤ_comm y x in
    omega (arith, ints)

-- a quotient cut toward zero, times the divisor, is no further from 0 than the dividend
cut_square : (x : ℤ) → ((int_div x full_scale *ℤ full_scale) *ℤ (int_div x full_scale *ℤ full_scale)) ≤ℤ (x *ℤ x)
cut_square (pos n) = ordered_square (pos n) (int_div (pos n) full_scale *ℤ full_scale) (omega (arith, ints)) (omega (arith, ints))
cut_square (negsuc n) =
    let y = int_div (negsuc n) full_scale *ℤ full_scale in
    let p : (neg_ℤ y *ℤ neg_ℤ y) ≤ℤ (pos (suc n) *ℤ pos (suc n)) = ordered_square (pos (suc n)) (neg_ℤ y) (omega (arith, ints)) (omega (arith, ints)) in
    let e : neg_ℤ y *ℤ neg_ℤ y ≡ y *ℤ y = ring (y ∷ []) (minus (var 0) ⊗ minus (var 0)) (var 0 ⊗ var 0) tt in
    let f : pos (suc n) *ℤ pos (suc n) ≡ negsuc n *ℤ negsuc n = ring (negsuc n ∷ []) (minus (var 0) ⊗ minus (var 0)) (var 0 ⊗ var 0) tt in
    omega (arith, ints)

-- the rule: two rotations within a length of q, put together and divided by q, stay within it
rotation_short : (q a b c d t u : ℤ) → pos 0 <ℤ q → (a *ℤ a +ℤ b *ℤ b) ≤ℤ (q *ℤ q) → (c *ℤ c +ℤ d *ℤ d) ≤ℤ (q *ℤ q)
    → ((t *ℤ q) *ℤ (t *ℤ q)) ≤ℤ ((a *ℤ c -ℤ b *ℤ d) *ℤ (a *ℤ c -ℤ b *ℤ d))
    → ((u *ℤ q) *ℤ (u *ℤ q)) ≤ℤ ((b *ℤ c +ℤ a *ℤ d) *ℤ (b *ℤ c +ℤ a *ℤ d))
    → (t *ℤ t +ℤ u *ℤ u) ≤ℤ (q *ℤ q)
rotation_short q a b c d t u q0 h k x y =
    let low_a = square_nonneg a in
    let low_b = square_nonneg b in
    let low_q = square_nonneg q in
    let n : pos 0 ≤ℤ (a *ℤ a +ℤ b *ℤ b) = omega (arith, ints) in
    let lengths = ring (a ∷ (b ∷ (c ∷ (d ∷ []))))
    ((var 0 ⊗ var 2 ⊕ minus (var 1 ⊗ var 3)) ⊗ (var 0 ⊗ var 2 ⊕ minus (var 1 ⊗ var 3)) ⊕ (var 1 ⊗ var 2 ⊕ var 0 ⊗ var 3) ⊗ (var 1 ⊗ var 2 ⊕ var 0 ⊗ var 3))
    ((var 0 ⊗ var 0 ⊕ var 1 ⊗ var 1) ⊗ (var 2 ⊗ var 2 ⊕ var 3 ⊗ var 3)) tt in
    let product = ring (q ∷ (t ∷ (u ∷ []))) ((var 1 ⊗ var 0) ⊗ (var 1 ⊗ var 0) ⊕ (var 2 ⊗ var 0) ⊗ (var 2 ⊗ var 0)) ((var 0 ⊗ var 0) ⊗ (var 1 ⊗ var 1 ⊕ var 2 ⊗ var 2)) tt in
    let first = mul_le (a *ℤ a +ℤ b *ℤ b) (c *ℤ c +ℤ d *ℤ d) (q *ℤ q) n k in
    let second = mul_le (q *ℤ q) (a *ℤ a +ℤ b *ℤ b) (q *ℤ q) low_q h in
    let turned_about = *ℤ_comm (a *ℤ a +ℤ b *ℤ b) (q *ℤ q) in
    le_cancel (q *ℤ q) (t *ℤ t +ℤ u *ℤ u) (q *ℤ q) (mul_pos q q q0 q0) (omega (arith, ints))

-- two short rotations make a short one
pub turned-short : (p p' : Pair) → IsShort p → IsShort p' → IsShort (turned p p')
unfolding turned
turned-short (a, b) (c, d) h k = record { within = rotation_short full_scale a b c d _ _ (omega (arith, ints)) h.within k.within (cut_square (a *ℤ c -ℤ b *ℤ d)) (cut_square (b *ℤ c +ℤ a *ℤ d)) }

-- so do n short steps
pub repeated-short : (step : Pair) (n : ℕ) → IsShort step → IsShort (repeated step n)
unfolding repeated
repeated-short step zero h = record { within = omega (arith, ints) }
repeated-short step (suc n) h = turned-short (repeated step n) step (repeated-short step n h) h

-- one part of a short pair lies within the scale
part_within : (a b : ℤ) → (a *ℤ a +ℤ b *ℤ b) ≤ℤ (full_scale *ℤ full_scale) → (neg_ℤ full_scale ≤ℤ a) × (a ≤ℤ full_scale)
part_within a b h =
    let rest = square_nonneg b in
    let e : neg_ℤ a *ℤ neg_ℤ a ≡ a *ℤ a = ring (a ∷ []) (minus (var 0) ⊗ minus (var 0)) (var 0 ⊗ var 0) tt in
    let above : a ≤ℤ full_scale = square_le_cancel a full_scale (omega (arith, ints)) (omega (arith, ints)) in
    let below : neg_ℤ a ≤ℤ full_scale = square_le_cancel (neg_ℤ a) full_scale (omega (arith, ints)) (omega (arith, ints)) in
    (omega (arith, ints), above)

-- the parts of a short pair lie within the scale
pub parts_within : (p : Pair) → IsShort p → PartsWithin p
parts_within (a, b) h =
    let first = part_within a b h.within in
    let swapped : (b *ℤ b +ℤ a *ℤ a) ≤ℤ (full_scale *ℤ full_scale) = let w = h.within in omega (arith, ints) in
    let second = part_within b a swapped in
    record { cosine_low = first.0; cosine_high = first.1; sine_low = second.0; sine_high = second.1 }
