-- A spread over the square of a count by way of 2^12, and the weight of a variance.
use Rattle.std.proofs.Common.{◌≡◌, ℕ, zero, suc, ◌+◌, ◌*◌, ◌/◌, ◌<◌, ◌≤◌, [], ◌∷◌, refl, ap, arith, ℤ, pos, ◌+ℤ◌, ◌*ℤ◌, ◌≤ℤ◌, ◌<ℤ◌}
use Rattle.std.specs.Prelude.{◌^◌, max, unsigned_abs}
use Rattle.std.proofs.lemmas.Int.{ints}
use Rattle.dp_fixed.proofs.Divisions.{floor_is, floor_only}
use Rattle.dp_fixed.specs.Division.{IsFloor, floor_of}
use Rattle.dp_form.proofs.Order.{mul_pos}
use Rattle.dp_form.proofs.Ring.{var, num, ◌⊗◌, ring}
use Rattle.dp_reftest.specs.Running.{square_millimetres}
use Rattle.dp_reftest.specs.Verdict.{weight_of}

floor-from : (s m q d e : ℤ) → IsFloor s (pos 4096) m → IsFloor m d q → e ≡ pos 4096 *ℤ d → q *ℤ e ≡ pos 4096 *ℤ (q *ℤ d) → IsFloor s e q
floor-from s m q d e f g is product = record {
  below = omega (arith, ints, f.below, g.below, product);
  above = omega (arith, ints, f.above, g.above, product, is);
}

-- a spread over 2^12, and that over the rest of what nm² are parted by
pub mean_of_shortened : (s : ℤ) (m n : ℕ) → 0 < n → IsFloor s (pos 4096) (pos m) → pos (m / (n * n * 244140625)) ≡ floor_of s (square_millimetres n)
mean_of_shortened s m n some f =
    let k : pos 0 <ℤ pos n = omega (arith, ints, some) in
    let square = mul_pos (pos n) (pos n) k k in
    let positive = mul_pos (pos n *ℤ pos n) (pos (10 ^ 12)) square (omega (arith, ints)) in
    let d = (pos n *ℤ pos n) *ℤ pos 244140625 in
    let d-positive : pos 0 <ℤ d = mul_pos (pos n *ℤ pos n) (pos 244140625) square (omega (arith, ints)) in
    let q = floor_of (pos m) d in
    let g = floor_is (pos m) d d-positive in
    let is : square_millimetres n ≡ pos 4096 *ℤ d = ring (pos n ∷ []) ((var 0 ⊗ var 0) ⊗ num (pos 1000000000000)) (num (pos 4096) ⊗ ((var 0 ⊗ var 0) ⊗ num (pos 244140625))) tt in
    let product : q *ℤ square_millimetres n ≡ pos 4096 *ℤ (q *ℤ d) = ring (pos n ∷ (q ∷ [])) (var 1 ⊗ ((var 0 ⊗ var 0) ⊗ num (pos 1000000000000))) (num (pos 4096) ⊗ (var 1 ⊗ ((var 0 ⊗ var 0) ⊗ num (pos 244140625)))) tt in
    floor_only s (square_millimetres n) q positive (floor-from s (pos m) q d (square_millimetres n) f g is product)

-- ---- weights
abbrev scale : ℕ
scale = 1048576

at-least-one : (d q : ℕ) → d ≤ 1048576 → pos 1048576 <ℤ (pos q *ℤ pos d +ℤ pos d) → 1 ≤ q
at-least-one d zero few above = absurd (omega (arith, ints, few, above))
at-least-one d (suc q) few above = omega arith

pub most_over_low : (d : ℕ) → 0 < d → d ≤ 1048576 → 1 ≤ 1048576 / d
most_over_low d some few = at-least-one d (1048576 / d) few (floor_is (pos 1048576) (pos d) (omega (arith, ints, some))).above

pub light : (w : ℤ) (v r : ℕ) → pos v ≡ w → r ≡ 1048576 / (1 + v) → 1 ≤ r → r ≡ weight_of w
light w v r is e low =
    let same : weight_of (pos v) ≡ max 1 (1048576 / (1 + v)) = refl in
    omega (arith, e, low, ap weight_of is, same)

pub heavy : (w : ℤ) → pos 1048576 ≤ℤ w → 1 ≡ weight_of w
heavy w high =
    let f = floor_is (pos 1048576) (pos 1 +ℤ w) (omega (arith, ints, high)) in
    let zero-is : pos 0 ≡ floor_of (pos 1048576) (pos 1 +ℤ w) = floor_only (pos 1048576) (pos 1 +ℤ w) (pos 0) (omega (arith, ints, high)) (record { below = omega (arith, ints); above = omega (arith, ints, high) }) in
    ap (λ (z : ℤ). max 1 (unsigned_abs z)) zero-is
