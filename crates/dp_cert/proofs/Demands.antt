-- How far a demand moves between two runs.
use Rattle.std.proofs.Common.{◌≡◌, List, [], ◌∷◌, ap, ◌∙◌, arith, ℤ, pos, negsuc, neg_ℤ, ◌+ℤ◌, ◌-ℤ◌, ◌*ℤ◌, ◌≤ℤ◌, ◌<ℤ◌}
use Rattle.std.proofs.lemmas.Int.{ints, by_lt_z}
use Rattle.std.specs.Prelude.{unsigned_abs}
use Rattle.std.proofs.lemmas.Int.{clamps}
use Rattle.dp_form.proofs.Ring.{var, ◌⊕◌, ◌⊗◌, minus, ring}
use Rattle.dp_form.proofs.Order.{square_nonneg, mul_nonneg, mul_le}
use Rattle.dp_fixed.specs.Division.{floor_of}
use Rattle.dp_fixed.specs.Order.{clamp_of}
use Rattle.dp_fixed.proofs.Divisions.{floor_is}
use Rattle.dp_form.specs.Form.{form, plane_form, IsNonNegative}
use Rattle.dp_form.specs.Axes.{along, across}
use Rattle.dp_form.specs.Clamp.{Share}
use Rattle.dp_form.proofs.Axes.{short_pair}
use Rattle.dp_form.proofs.Clamp.{share_of}
use Rattle.dp_cert.proofs.Line.{AxisMove}
use Rattle.dp_cert.proofs.Near.{Near, near_times, near_cancel, near_square, near_share}
use Rattle.dp_cert.proofs.Floors.{rest, floors_near}

-- a clamp passes on a share, also where its ends are crossed
pub clamp_share : (lo hi z y : ℤ) → Share (z -ℤ y) (clamp_of z lo hi -ℤ clamp_of y lo hi)
clamp_share lo hi z y = by_lt_z hi lo
    (λ l. crossed (z -ℤ y) (clamp_of z lo hi -ℤ clamp_of y lo hi) (omega (arith, ints, clamps)))
    (λ l. share_of lo hi z y l)
  where
    crossed : (f g : ℤ) → g ≡ pos 0 → Share f g
    crossed f g e = record { part = pos 0; whole = pos 1; from_zero = omega (arith, ints); to_one = omega (arith, ints); whole_positive = omega (arith, ints); is_share = omega (arith, ints, e) }

-- the output with the bias' share lies between the outputs with none of it and with all of it
output_shared : (q o b held k : ℤ) → pos 0 ≤ℤ k → Share b held → Near k o → Near k (o +ℤ q *ℤ b) → Near k (o +ℤ q *ℤ held)
output_shared q o b held k k0 s n0 n1 =
    let e = s.whole in let n = s.part in
    let a = near_times (e -ℤ n) k o (omega (arith, ints, s.to_one)) n0 in
    let c = near_times n k (o +ℤ q *ℤ b) s.from_zero n1 in
    let r = (ring (e ∷ (n ∷ (k ∷ []))) ((var 0 ⊕ minus (var 1)) ⊗ var 2 ⊕ var 1 ⊗ var 2) (var 0 ⊗ var 2) tt) in
    let x : e *ℤ (o +ℤ q *ℤ held) ≡ (e -ℤ n) *ℤ o +ℤ n *ℤ (o +ℤ q *ℤ b) =
    (ring (e ∷ (q ∷ (o ∷ (held ∷ [])))) (var 0 ⊗ (var 2 ⊕ var 1 ⊗ var 3)) (var 0 ⊗ var 2 ⊕ var 1 ⊗ (var 0 ⊗ var 3)) tt)
    ∙ ap (λ (z : ℤ). e *ℤ o +ℤ q *ℤ z) s.is_share
    ∙ (ring (e ∷ (n ∷ (q ∷ (o ∷ (b ∷ []))))) (var 0 ⊗ var 3 ⊕ var 2 ⊗ (var 1 ⊗ var 4)) ((var 0 ⊕ minus (var 1)) ⊗ var 3 ⊕ var 1 ⊗ (var 3 ⊕ var 2 ⊗ var 4)) tt) in
    near_cancel e k (o +ℤ q *ℤ held) s.whole_positive (joined (e *ℤ k) (e *ℤ (o +ℤ q *ℤ held)) ((e -ℤ n) *ℤ k) (n *ℤ k) ((e -ℤ n) *ℤ o) (n *ℤ (o +ℤ q *ℤ b)) r x a c)
  where
    joined : (dk x k1 k2 a b : ℤ) → k1 +ℤ k2 ≡ dk → x ≡ a +ℤ b → Near k1 a → Near k2 b → Near dk x
    joined dk x k1 k2 a b p q m n = record { below = omega (arith, ints, m.below, n.below); above = omega (arith, ints, m.above, n.above) }

pub near_negated : (k z : ℤ) → Near k z → Near k (neg_ℤ z)
near_negated k z h = record { below = omega (arith, ints, h.above); above = omega (arith, ints, h.below) }

-- so the demand moves by at most k
pub move_near : (q o b moved k : ℤ) → pos 0 ≤ℤ k → AxisMove q o b moved → Near k o → Near k (o +ℤ q *ℤ b) → Near k moved
move_near q o b moved k k0 a n0 n1 =
    near_share (neg_ℤ (o +ℤ q *ℤ a.held)) moved k k0 a.box (near_negated k (o +ℤ q *ℤ a.held) (output_shared q o b a.held k k0 a.bias n0 n1))

-- what the output's condition says where the plane's form is at most n², along either axis
output_near : (q g o v n : ℤ) → pos 0 ≤ℤ q → pos 0 ≤ℤ g → pos 0 ≤ℤ n → (o *ℤ o) ≤ℤ (g *ℤ g *ℤ v) → v ≤ℤ (q *ℤ q *ℤ (n *ℤ n)) → Near (g *ℤ (q *ℤ n)) o
output_near q g o v n q0 g0 n0 h k =
    let a = mul_le (g *ℤ g) v (q *ℤ q *ℤ (n *ℤ n)) (square_nonneg g) k in
    let e = (ring (q ∷ (g ∷ (n ∷ []))) (var 1 ⊗ var 1 ⊗ (var 0 ⊗ var 0 ⊗ (var 2 ⊗ var 2))) (var 1 ⊗ (var 0 ⊗ var 2) ⊗ (var 1 ⊗ (var 0 ⊗ var 2))) tt) in
    near_square (g *ℤ (q *ℤ n)) o (mul_nonneg g (q *ℤ n) g0 (mul_nonneg q n q0 n0)) (omega (arith, ints))

-- the forms along the two axes
pub axes_below : (p : List (List ℤ)) → IsNonNegative p → (q c s n : ℤ) (x y : List ℤ) → (c *ℤ c +ℤ s *ℤ s) ≤ℤ (q *ℤ q) → plane_form p x y ≤ℤ (n *ℤ n) →
    (form p (along c s x y) ≤ℤ (q *ℤ q *ℤ (n *ℤ n))) × (form p (across c s x y) ≤ℤ (q *ℤ q *ℤ (n *ℤ n)))
axes_below p h q c s n x y short v =
    let a = short_pair p h q c s x y short in
    let b = mul_le (q *ℤ q) (plane_form p x y) (n *ℤ n) (square_nonneg q) v in
    both (form p (along c s x y)) (form p (across c s x y)) (q *ℤ q *ℤ plane_form p x y) (q *ℤ q *ℤ (n *ℤ n)) (h (along c s x y)) (h (across c s x y)) a b
  where
    both : (f g u w : ℤ) → pos 0 ≤ℤ f → pos 0 ≤ℤ g → (f +ℤ g) ≤ℤ u → u ≤ℤ w → (f ≤ℤ w) × (g ≤ℤ w)
    both f g u w f0 g0 i j = (omega (arith, ints), omega (arith, ints))

-- q times the demand's move, with its rounding
demand_size : (q g n a a' moved left : ℤ) → pos 0 <ℤ q → q *ℤ q *ℤ (a -ℤ a') ≡ moved +ℤ left → Near (g *ℤ (q *ℤ n)) moved → Near (q *ℤ q) left → Near (g *ℤ n +ℤ q) (q *ℤ (a -ℤ a'))
demand_size q g n a a' moved left q0 e m r =
    let f = (ring (q ∷ (g ∷ (n ∷ []))) (var 0 ⊗ (var 1 ⊗ var 2 ⊕ var 0)) (var 1 ⊗ (var 0 ⊗ var 2) ⊕ var 0 ⊗ var 0) tt) in
    let k = (ring (q ∷ (a ∷ (a' ∷ []))) (var 0 ⊗ (var 0 ⊗ (var 1 ⊕ minus (var 2)))) (var 0 ⊗ var 0 ⊗ (var 1 ⊕ minus (var 2))) tt) in
    near_cancel q (g *ℤ n +ℤ q) (q *ℤ (a -ℤ a')) q0
    (record { below = omega (arith, ints, m.below, r.below); above = omega (arith, ints, m.above, r.above) })

-- the size of a whole number, times one above 0
pub near_factor : (q k z : ℤ) → Near k (q *ℤ z) → (q *ℤ pos (unsigned_abs z)) ≤ℤ k
near_factor q k (pos n) h = h.above
near_factor q k (negsuc n) h =
    let e : q *ℤ negsuc n ≡ neg_ℤ (q *ℤ neg_ℤ (negsuc n)) = turned q (negsuc n) in
    omega (arith, ints, h.below, e)
  where
    turned : (q z : ℤ) → q *ℤ z ≡ neg_ℤ (q *ℤ neg_ℤ z)
    turned q z = (ring (q ∷ (z ∷ [])) (var 0 ⊗ var 1) (minus (var 0 ⊗ minus (var 1))) tt)

-- the demand on one axis, where v is the form along the axis
pub demand_below : (q g n o b v a a' moved left : ℤ) → pos 0 <ℤ q → pos 0 ≤ℤ g → pos 0 ≤ℤ n → v ≤ℤ (q *ℤ q *ℤ (n *ℤ n)) →
    (o *ℤ o) ≤ℤ (g *ℤ g *ℤ v) → ((o +ℤ q *ℤ b) *ℤ (o +ℤ q *ℤ b)) ≤ℤ (g *ℤ g *ℤ v) → AxisMove q o b moved →
    q *ℤ q *ℤ (a -ℤ a') ≡ moved +ℤ left → Near (q *ℤ q) left → (q *ℤ pos (unsigned_abs (a -ℤ a'))) ≤ℤ (g *ℤ n +ℤ q)
demand_below q g n o b v a a' moved left q0 g0 n0 hv ho hf mv e r =
    let q1 : pos 0 ≤ℤ q = omega (arith, ints) in
    let k0 = mul_nonneg g (q *ℤ n) g0 (mul_nonneg q n q1 n0) in
    let m = move_near q o b moved (g *ℤ (q *ℤ n)) k0 mv (output_near q g o v n q1 g0 n0 ho hv) (output_near q g (o +ℤ q *ℤ b) v n q1 g0 n0 hf hv) in
    near_factor q (g *ℤ n +ℤ q) (a -ℤ a') (demand_size q g n a a' moved left q0 e m r)

-- ---- the demand's own rounding
pub demand_split : (d z z' : ℤ) → d *ℤ (floor_of z d -ℤ floor_of z' d) ≡ (z -ℤ z') +ℤ rest d z z'
demand_split d z z' = split d z z' (floor_of z d) (floor_of z' d)
  where
    split : (d z z' f f' : ℤ) → d *ℤ (f -ℤ f') ≡ (z -ℤ z') +ℤ ((z' -ℤ d *ℤ f') -ℤ (z -ℤ d *ℤ f))
    split d z z' f f' = (ring (d ∷ (z ∷ (z' ∷ (f ∷ (f' ∷ []))))) (var 0 ⊗ (var 3 ⊕ minus (var 4))) (var 1 ⊕ minus (var 2) ⊕ (var 2 ⊕ minus (var 0 ⊗ var 4) ⊕ minus (var 1 ⊕ minus (var 0 ⊗ var 3)))) tt)

pub demand_rest : (d z z' : ℤ) → pos 0 <ℤ d → Near d (rest d z z')
demand_rest d z z' h = floors_near z z' d (floor_of z d) (floor_of z' d) (floor_is z d h) (floor_is z' d h)
