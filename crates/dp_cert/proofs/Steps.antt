-- One step of two runs, for any number of states: the linear part shrinks, and places and roundings add what they may.
use Rattle.std.proofs.Common.{◌≡◌, List, [], ◌∷◌, length, sym, ap, subst, ◌∙◌, arith, ℤ, pos, ◌+ℤ◌, ◌-ℤ◌, ◌*ℤ◌, ◌≤ℤ◌, ◌<ℤ◌}
use Rattle.std.proofs.lemmas.Int.{ints}
use Rattle.dp_form.proofs.Ring.{var, num, ◌⊕◌, ◌⊗◌, ring}
use Rattle.dp_form.proofs.Order.{square_nonneg, mul_nonneg, mul_le, mul_pos, le_cancel}
use Rattle.dp_form.specs.Vectors.{dot, add, scale, apply}
use Rattle.dp_form.specs.Form.{form, plane_form, IsNonNegative}
use Rattle.dp_form.specs.Axes.{along, across}
use Rattle.dp_form.proofs.Expansion.{form_scale}
use Rattle.dp_form.proofs.Sizes.{length-scale, length-add}
use Rattle.dp_form.proofs.Triangle.{plane_triangle}
use Rattle.dp_cert.specs.States.{gap}
use Rattle.dp_cert.specs.Matrices.{absolute_rows}
use Rattle.dp_cert.proofs.VectorSums.{add_assoc, add_comm, add_swap, scale_add, scale_scale, scale_sum, gap_sum, gap_scale, gap_apply}
use Rattle.dp_cert.proofs.Line.{AxisMove}
use Rattle.dp_cert.proofs.Turned.{Contracts, plane_linear}
use Rattle.dp_cert.proofs.Near.{Near, near_product, near_square, square_near, Within, within_scale, within_add, form_near}
use Rattle.dp_cert.proofs.Sums.{length-apply}
use Rattle.dp_cert.proofs.Floors.{floored, floored_gap, ones, ones_same, rests, rests_within, length-ones, length-rests}

-- one coordinate's loop, for any number of states, over q: the observer, how the measured place corrects it, where the thrust enters,
-- which state is the bias, and on each axis the output that the demand follows with the bias held and with the bias free
pub record Observer : Type 0 where
  pub q : ℤ
  pub m : List (List ℤ)
  pub correction : List ℤ
  pub thrust : List ℤ
  pub bias : List ℤ
  pub held0 : List ℤ
  pub free0 : List ℤ
  pub held1 : List ℤ
  pub free1 : List ℤ

-- what a certificate says of it, in numbers
pub record Certified (o : Observer) (p : List (List ℤ)) (rate input rounding : ℤ) : Type 0 where
  pub scale_positive : pos 0 <ℤ o.q
  pub rate_low : pos 0 ≤ℤ rate
  pub input_low : pos 0 ≤ℤ input
  pub rounding_low : pos 0 ≤ℤ rounding
  pub nonneg : IsNonNegative p
  pub surge : Contracts p o.m o.thrust o.held0 o.free0 (rate *ℤ rate)
  pub sway : Contracts p o.m o.thrust o.held1 o.free1 (rate *ℤ rate)
  pub bias_surge : (x : List ℤ) → dot o.free0 x ≡ dot o.held0 x +ℤ o.q *ℤ dot o.bias x
  pub bias_sway : (x : List ℤ) → dot o.free1 x ≡ dot o.held1 x +ℤ o.q *ℤ dot o.bias x
  pub input_enough : (pos 2 *ℤ form p o.correction) ≤ℤ (input *ℤ input)
  pub rounding_enough : (pos 2 *ℤ form (absolute_rows p) (add (ones o.thrust) (scale (pos 2) o.thrust))) ≤ℤ (rounding *ℤ rounding)
  pub thrust_low : Within o.thrust o.thrust
  pub rows : length o.m ≡ length o.thrust
  pub corrections : length o.correction ≡ length o.thrust

-- and of what the demands follow, by the greatest demands g0 and g1
pub record BoundsDemands (o : Observer) (p : List (List ℤ)) (g0 g1 : ℤ) : Type 0 where
  pub low0 : pos 0 ≤ℤ g0
  pub low1 : pos 0 ≤ℤ g1
  pub held0 : (x : List ℤ) → (dot o.held0 x *ℤ dot o.held0 x) ≤ℤ (g0 *ℤ g0 *ℤ form p x)
  pub free0 : (x : List ℤ) → (dot o.free0 x *ℤ dot o.free0 x) ≤ℤ (g0 *ℤ g0 *ℤ form p x)
  pub held1 : (x : List ℤ) → (dot o.held1 x *ℤ dot o.held1 x) ≤ℤ (g1 *ℤ g1 *ℤ form p x)
  pub free1 : (x : List ℤ) → (dot o.free1 x *ℤ dot o.free1 x) ≤ℤ (g1 *ℤ g1 *ℤ form p x)

-- a coordinate's states a cycle later, times q and not yet rounded: corrected by the measured place y, pushed by t
abbrev pub numerators : Observer → List ℤ → ℤ → ℤ → List ℤ
numerators o x y t = add (add (apply o.m x) (scale y o.correction)) (scale t o.thrust)

abbrev pub next_of : Observer → List ℤ → ℤ → ℤ → List ℤ
next_of o x y t = floored o.q (numerators o x y t)

numerators_gap : (o : Observer) (x x' : List ℤ) (y y' t t' : ℤ) →
    gap (numerators o x y t) (numerators o x' y' t') ≡ add (add (apply o.m (gap x x')) (scale (y -ℤ y') o.correction)) (scale (t -ℤ t') o.thrust)
numerators_gap o x x' y y' t t' =
    gap_sum (add (apply o.m x) (scale y o.correction)) (scale t o.thrust) (add (apply o.m x') (scale y' o.correction)) (scale t' o.thrust)
    ∙ ap (λ (z : List ℤ). add z (gap (scale t o.thrust) (scale t' o.thrust))) (gap_sum (apply o.m x) (scale y o.correction) (apply o.m x') (scale y' o.correction))
    ∙ ap (λ (z : List ℤ). add (add z (gap (scale y o.correction) (scale y' o.correction))) (gap (scale t o.thrust) (scale t' o.thrust))) (gap_apply o.m x x')
    ∙ ap (λ (z : List ℤ). add (add (apply o.m (gap x x')) z) (gap (scale t o.thrust) (scale t' o.thrust))) (gap_scale y y' o.correction)
    ∙ ap (add (add (apply o.m (gap x x')) (scale (y -ℤ y') o.correction))) (gap_scale t t' o.thrust)

regrouped : (a b t s r : List ℤ) → add (add (add a b) (add t s)) r ≡ add (add (add a t) b) (add r s)
regrouped a b t s r =
    ap (λ (z : List ℤ). add z r) (sym (add_assoc (add a b) t s)) ∙ add_assoc (add (add a b) t) s r
    ∙ ap (λ (z : List ℤ). add z (add s r)) (add_swap a b t) ∙ ap (add (add (add a t) b)) (add_comm s r)

abbrev rest_of : ℤ → ℤ → List ℤ → List ℤ → List ℤ
rest_of q t w r = add (scale (q *ℤ q) r) (scale t w)

pub length-numerators : (o : Observer) → length o.m ≡ length o.thrust → length o.correction ≡ length o.thrust → (x : List ℤ) (y t : ℤ) → length (numerators o x y t) ≡ length o.thrust
length-numerators o hm hk x y t =
    length-add (length o.thrust) (add (apply o.m x) (scale y o.correction)) (scale t o.thrust)
    (length-add (length o.thrust) (apply o.m x) (scale y o.correction) (length-apply o.m x ∙ hm) (length-scale y o.correction ∙ hk))
    (length-scale t o.thrust)

-- q³ times what is between the next states: what the demands' moves make of it, the places' part and the roundings'
next_gap : (o : Observer) → length o.m ≡ length o.thrust → length o.correction ≡ length o.thrust → (x x' : List ℤ) (y y' t t' moved left : ℤ) → o.q *ℤ o.q *ℤ (t -ℤ t') ≡ moved +ℤ left →
    scale (o.q *ℤ o.q *ℤ o.q) (gap (next_of o x y t) (next_of o x' y' t'))
    ≡ add (add (add (scale (o.q *ℤ o.q) (apply o.m (gap x x'))) (scale moved o.thrust)) (scale (o.q *ℤ o.q *ℤ (y -ℤ y')) o.correction))
    (rest_of o.q left o.thrust (rests o.q (numerators o x y t) (numerators o x' y' t')))
next_gap o hm hk x x' y y' t t' moved left e =
    let q = o.q in let qq = o.q *ℤ o.q in
    let ns = numerators o x y t in let ns' = numerators o x' y' t' in
    let r = rests q ns ns' in
    let a = apply o.m (gap x x') in let b = scale (y -ℤ y') o.correction in let d = scale (t -ℤ t') o.thrust in
    let l = length-numerators o hm hk x y t ∙ sym (length-numerators o hm hk x' y' t') in
    sym (scale_scale qq q (gap (floored q ns) (floored q ns')))
    ∙ ap (scale qq) (floored_gap q ns ns' l)
    ∙ ap (λ (z : List ℤ). scale qq (add z r)) (numerators_gap o x x' y y' t t')
    ∙ scale_add qq (add (add a b) d) r
    ∙ ap (λ (z : List ℤ). add z (scale qq r)) (scale_add qq (add a b) d)
    ∙ ap (λ (z : List ℤ). add (add z (scale qq d)) (scale qq r)) (scale_add qq a b)
    ∙ ap (λ (z : List ℤ). add (add (add (scale qq a) z) (scale qq d)) (scale qq r)) (scale_scale qq (y -ℤ y') o.correction)
    ∙ ap (λ (z : List ℤ). add (add (add (scale qq a) (scale (qq *ℤ (y -ℤ y')) o.correction)) z) (scale qq r))
    (scale_scale qq (t -ℤ t') o.thrust ∙ ap (λ (z : ℤ). scale z o.thrust) e ∙ scale_sum moved left o.thrust)
    ∙ regrouped (scale qq a) (scale (qq *ℤ (y -ℤ y')) o.correction) (scale moved o.thrust) (scale left o.thrust) (scale qq r)

-- ---- the three parts

-- a place that differs by at most s in each coordinate
pub input_below : (p : List (List ℤ)) (k : List ℤ) (qq b s y y' : ℤ) → pos 0 ≤ℤ form p k → pos 0 ≤ℤ s → (pos 2 *ℤ form p k) ≤ℤ (b *ℤ b) → (y *ℤ y) ≤ℤ (s *ℤ s) → (y' *ℤ y') ≤ℤ (s *ℤ s) →
    (form p (scale (qq *ℤ y) k) +ℤ form p (scale (qq *ℤ y') k)) ≤ℤ (qq *ℤ (b *ℤ s) *ℤ (qq *ℤ (b *ℤ s)))
input_below p k qq b s y y' v0 s0 hb hy hy' =
    let f = form_scale p (qq *ℤ y) k in let f' = form_scale p (qq *ℤ y') k in
    let w = qq *ℤ qq in
    let w0 = square_nonneg qq in
    let a = mul_le (w *ℤ form p k) (y *ℤ y +ℤ y' *ℤ y') (pos 2 *ℤ (s *ℤ s)) (mul_nonneg w (form p k) w0 v0) (omega (arith, ints)) in
    let c = mul_le (w *ℤ (s *ℤ s)) (pos 2 *ℤ form p k) (b *ℤ b) (mul_nonneg w (s *ℤ s) w0 (square_nonneg s)) hb in
    let e1 = (ring (qq ∷ (y ∷ (y' ∷ (form p k ∷ [])))) (var 0 ⊗ var 1 ⊗ (var 0 ⊗ var 1) ⊗ var 3 ⊕ var 0 ⊗ var 2 ⊗ (var 0 ⊗ var 2) ⊗ var 3) (var 0 ⊗ var 0 ⊗ var 3 ⊗ (var 1 ⊗ var 1 ⊕ var 2 ⊗ var 2)) tt) in
    let e2 = (ring (qq ∷ (s ∷ (form p k ∷ []))) (var 0 ⊗ var 0 ⊗ var 2 ⊗ (num (pos 2) ⊗ (var 1 ⊗ var 1))) (var 0 ⊗ var 0 ⊗ (var 1 ⊗ var 1) ⊗ (num (pos 2) ⊗ var 2)) tt) in
    let e3 = (ring (qq ∷ (s ∷ (b ∷ []))) (var 0 ⊗ var 0 ⊗ (var 1 ⊗ var 1) ⊗ (var 2 ⊗ var 2)) (var 0 ⊗ (var 2 ⊗ var 1) ⊗ (var 0 ⊗ (var 2 ⊗ var 1))) tt) in
    omega (arith, ints)

near_self : (k : ℤ) → pos 0 ≤ℤ k → Near k k
near_self k h = record { below = omega (arith, ints); above = omega (arith, ints) }

-- the roundings of one coordinate
rest_near : (p : List (List ℤ)) (q t : ℤ) (w ns ns' : List ℤ) → pos 0 <ℤ q → Near (q *ℤ q *ℤ q *ℤ pos 2) t → Within w w → length ns ≡ length w → length ns' ≡ length w →
    form p (rest_of q t w (rests q ns ns')) ≤ℤ form (absolute_rows p) (scale (q *ℤ q *ℤ q) (add (ones w) (scale (pos 2) w)))
rest_near p q t w ns ns' q0 n w0 l l' =
    let qq = q *ℤ q in let r = rests q ns ns' in
    let s1 = scale qq (scale q (ones ns)) in let s2 = scale (qq *ℤ q *ℤ pos 2) w in
    let lr : length r ≡ length w = length-rests q ns ns' (l ∙ sym l') ∙ l in
    let l1 : length s1 ≡ length w = length-scale qq (scale q (ones ns)) ∙ length-scale q (ones ns) ∙ length-ones ns ∙ l in
    let l2 : length s2 ≡ length w = length-scale (qq *ℤ q *ℤ pos 2) w in
    let k1 : length (scale qq r) ≡ length w = length-scale qq r ∙ lr in
    let k2 : length (scale t w) ≡ length w = length-scale t w in
    let i = within_add s1 s2 (scale qq r) (scale t w)
    (within_scale qq qq (scale q (ones ns)) r (near_self qq (square_nonneg q)) (rests_within q ns ns' q0))
    (within_scale (qq *ℤ q *ℤ pos 2) t w w n w0) (l1 ∙ sym k1) (l2 ∙ sym k2) in
    let f = form_near p (add s1 s2) (rest_of q t w r) i (length-add (length w) s1 s2 l1 l2 ∙ sym (length-add (length w) (scale qq r) (scale t w) k1 k2)) in
    let e : add s1 s2 ≡ scale (qq *ℤ q) (add (ones w) (scale (pos 2) w)) =
    ap (λ (z : List ℤ). add z s2) (scale_scale qq q (ones ns) ∙ ap (scale (qq *ℤ q)) (ones_same ns w l))
    ∙ ap (add (scale (qq *ℤ q) (ones w))) (sym (scale_scale (qq *ℤ q) (pos 2) w))
    ∙ sym (scale_add (qq *ℤ q) (ones w) (scale (pos 2) w)) in
    subst (λ (z : List ℤ). form p (rest_of q t w r) ≤ℤ form (absolute_rows p) z) e f.above

rests_below : (q r f v v' : ℤ) → pos 0 ≤ℤ q → (pos 2 *ℤ f) ≤ℤ (r *ℤ r) → v ≤ℤ (q *ℤ q *ℤ q *ℤ (q *ℤ q *ℤ q) *ℤ f) → v' ≤ℤ (q *ℤ q *ℤ q *ℤ (q *ℤ q *ℤ q) *ℤ f) →
    (v +ℤ v') ≤ℤ (q *ℤ q *ℤ (q *ℤ r) *ℤ (q *ℤ q *ℤ (q *ℤ r)))
rests_below q r f v v' q0 h a b =
    let c = mul_le (q *ℤ q *ℤ q *ℤ (q *ℤ q *ℤ q)) (pos 2 *ℤ f) (r *ℤ r) (square_nonneg (q *ℤ q *ℤ q)) h in
    let e1 = (ring (q ∷ (f ∷ [])) (var 0 ⊗ var 0 ⊗ var 0 ⊗ (var 0 ⊗ var 0 ⊗ var 0) ⊗ (num (pos 2) ⊗ var 1)) (num (pos 2) ⊗ (var 0 ⊗ var 0 ⊗ var 0 ⊗ (var 0 ⊗ var 0 ⊗ var 0) ⊗ var 1)) tt) in
    let e2 = (ring (q ∷ (r ∷ [])) (var 0 ⊗ var 0 ⊗ var 0 ⊗ (var 0 ⊗ var 0 ⊗ var 0) ⊗ (var 1 ⊗ var 1)) (var 0 ⊗ var 0 ⊗ (var 0 ⊗ var 1) ⊗ (var 0 ⊗ var 0 ⊗ (var 0 ⊗ var 1))) tt) in
    omega (arith, ints)

linear_square : (qq rate f n v : ℤ) → pos 0 ≤ℤ qq → f ≤ℤ (n *ℤ n) → v ≤ℤ (qq *ℤ (qq *ℤ (rate *ℤ rate *ℤ f))) → v ≤ℤ (qq *ℤ (rate *ℤ n) *ℤ (qq *ℤ (rate *ℤ n)))
linear_square qq rate f n v q0 h k =
    let a = mul_le (rate *ℤ rate) f (n *ℤ n) (square_nonneg rate) h in
    let b = mul_le (qq *ℤ qq) (rate *ℤ rate *ℤ f) (rate *ℤ rate *ℤ (n *ℤ n)) (square_nonneg qq) a in
    let e1 = (ring (qq ∷ (rate ∷ (f ∷ []))) (var 0 ⊗ (var 0 ⊗ (var 1 ⊗ var 1 ⊗ var 2))) (var 0 ⊗ var 0 ⊗ (var 1 ⊗ var 1 ⊗ var 2)) tt) in
    let e2 = (ring (qq ∷ (rate ∷ (n ∷ []))) (var 0 ⊗ var 0 ⊗ (var 1 ⊗ var 1 ⊗ (var 2 ⊗ var 2))) (var 0 ⊗ (var 1 ⊗ var 2) ⊗ (var 0 ⊗ (var 1 ⊗ var 2))) tt) in
    omega (arith, ints)

-- ---- one step: three parts, each with its bound
pub step_below : (p : List (List ℤ)) → IsNonNegative p → (q a b r : ℤ) → pos 0 <ℤ q → pos 0 ≤ℤ a → pos 0 ≤ℤ b → pos 0 ≤ℤ r →
    (n n' u u' y y' e e' : List ℤ) →
    scale (q *ℤ q *ℤ q) n ≡ add (add u y) e → scale (q *ℤ q *ℤ q) n' ≡ add (add u' y') e' →
    (form p u +ℤ form p u') ≤ℤ (q *ℤ q *ℤ a *ℤ (q *ℤ q *ℤ a)) →
    (form p y +ℤ form p y') ≤ℤ (q *ℤ q *ℤ b *ℤ (q *ℤ q *ℤ b)) →
    (form p e +ℤ form p e') ≤ℤ (q *ℤ q *ℤ (q *ℤ r) *ℤ (q *ℤ q *ℤ (q *ℤ r))) →
    (q *ℤ q *ℤ (form p n +ℤ form p n')) ≤ℤ ((a +ℤ b +ℤ q *ℤ r) *ℤ (a +ℤ b +ℤ q *ℤ r))
step_below p pn q a b r q0 a0 b0 r0 n n' u u' y y' e e' s s' hu hy he =
    let qq0 = square_nonneg q in
    let ra : pos 0 ≤ℤ (q *ℤ q *ℤ a) = mul_nonneg (q *ℤ q) a qq0 a0 in
    let rb : pos 0 ≤ℤ (q *ℤ q *ℤ b) = mul_nonneg (q *ℤ q) b qq0 b0 in
    let rc : pos 0 ≤ℤ (q *ℤ q *ℤ (q *ℤ r)) = mul_nonneg (q *ℤ q) (q *ℤ r) qq0 (mul_nonneg q r (omega (arith, ints)) r0) in
    let t1 = plane_triangle p pn u u' y y' (q *ℤ q *ℤ a) (q *ℤ q *ℤ b) ra rb hu hy in
    let t2 = plane_triangle p pn (add u y) (add u' y') e e' (q *ℤ q *ℤ a +ℤ q *ℤ q *ℤ b) (q *ℤ q *ℤ (q *ℤ r)) (omega (arith, ints)) rc t1 he in
    let f = form_scale p (q *ℤ q *ℤ q) n in let f' = form_scale p (q *ℤ q *ℤ q) n' in
    let g : form p (add (add u y) e) ≡ q *ℤ q *ℤ q *ℤ (q *ℤ q *ℤ q) *ℤ form p n = ap (form p) (sym s) ∙ f in
    let g' : form p (add (add u' y') e') ≡ q *ℤ q *ℤ q *ℤ (q *ℤ q *ℤ q) *ℤ form p n' = ap (form p) (sym s') ∙ f' in
    let v = (ring (q ∷ (form p n ∷ (form p n' ∷ []))) (var 0 ⊗ var 0 ⊗ var 0 ⊗ (var 0 ⊗ var 0 ⊗ var 0) ⊗ var 1 ⊕ var 0 ⊗ var 0 ⊗ var 0 ⊗ (var 0 ⊗ var 0 ⊗ var 0) ⊗ var 2) (var 0 ⊗ var 0 ⊗ (var 0 ⊗ var 0) ⊗ (var 0 ⊗ var 0 ⊗ (var 1 ⊕ var 2))) tt) in
    let w = (ring (q ∷ (a ∷ (b ∷ (r ∷ [])))) ((var 0 ⊗ var 0 ⊗ var 1 ⊕ var 0 ⊗ var 0 ⊗ var 2 ⊕ var 0 ⊗ var 0 ⊗ (var 0 ⊗ var 3)) ⊗ (var 0 ⊗ var 0 ⊗ var 1 ⊕ var 0 ⊗ var 0 ⊗ var 2 ⊕ var 0 ⊗ var 0 ⊗ (var 0 ⊗ var 3))) (var 0 ⊗ var 0 ⊗ (var 0 ⊗ var 0) ⊗ ((var 1 ⊕ var 2 ⊕ var 0 ⊗ var 3) ⊗ (var 1 ⊕ var 2 ⊕ var 0 ⊗ var 3))) tt) in
    le_cancel (q *ℤ q *ℤ (q *ℤ q)) (q *ℤ q *ℤ (form p n +ℤ form p n')) ((a +ℤ b +ℤ q *ℤ r) *ℤ (a +ℤ b +ℤ q *ℤ r)) (mul_pos (q *ℤ q) (q *ℤ q) (mul_pos q q q0 q0) (mul_pos q q q0 q0))
    (sums _ _ _ _ _ _ _ g g' v w t2)
  where
    sums : (x x' a b c d e : ℤ) → x ≡ a → x' ≡ b → a +ℤ b ≡ c → e ≡ d → (x +ℤ x') ≤ℤ e → c ≤ℤ d
    sums x x' a b c d e p q r s t = omega (arith, ints)

-- the demands' roundings, turned into north or east
turned_rest : (q c s r0 r1 : ℤ) → pos 0 ≤ℤ q → (c *ℤ c +ℤ s *ℤ s) ≤ℤ (q *ℤ q) → Near (q *ℤ q) r0 → Near (q *ℤ q) r1 →
    Near (q *ℤ q *ℤ q *ℤ pos 2) (c *ℤ r0 -ℤ s *ℤ r1) × Near (q *ℤ q *ℤ q *ℤ pos 2) (s *ℤ r0 +ℤ c *ℤ r1)
turned_rest q c s r0 r1 h l n0 n1 =
    let sc = square_nonneg c in let ss = square_nonneg s in
    let nc = near_square q c h (omega (arith, ints)) in
    let ns = near_square q s h (omega (arith, ints)) in
    let a = near_product q (q *ℤ q) c r0 nc n0 in let b = near_product q (q *ℤ q) s r1 ns n1 in
    let d = near_product q (q *ℤ q) s r0 ns n0 in let e = near_product q (q *ℤ q) c r1 nc n1 in
    let x = (ring (q ∷ []) (var 0 ⊗ var 0 ⊗ var 0 ⊗ num (pos 2)) (var 0 ⊗ (var 0 ⊗ var 0) ⊕ var 0 ⊗ (var 0 ⊗ var 0)) tt) in (
      record { below = omega (arith, ints, a.below, b.above); above = omega (arith, ints, a.above, b.below) },
      record { below = omega (arith, ints, d.below, e.below); above = omega (arith, ints, d.above, e.above) },
    )

-- ---- the step of two runs
-- how the demands move, and with them what pushes in north and in east; over q², each demand's rounding is left
pub record PushMove (o : Observer) (c s : ℤ) (north east : List ℤ) (t t' u u' : ℤ) : Type 0 where
  pub moved0 : ℤ
  pub moved1 : ℤ
  pub left0 : ℤ
  pub left1 : ℤ
  pub surge : AxisMove o.q (dot o.held0 (along c s north east)) (dot o.bias (along c s north east)) moved0
  pub sway : AxisMove o.q (dot o.held1 (across c s north east)) (dot o.bias (across c s north east)) moved1
  pub left_surge : Near (o.q *ℤ o.q) left0
  pub left_sway : Near (o.q *ℤ o.q) left1
  pub push_north : o.q *ℤ o.q *ℤ (t -ℤ t') ≡ (c *ℤ moved0 -ℤ s *ℤ moved1) +ℤ (c *ℤ left0 -ℤ s *ℤ left1)
  pub push_east : o.q *ℤ o.q *ℤ (u -ℤ u') ≡ (s *ℤ moved0 +ℤ c *ℤ moved1) +ℤ (s *ℤ left0 +ℤ c *ℤ left1)

pub step_contracts : (o : Observer) (p : List (List ℤ)) (rate input rounding : ℤ) → Certified o p rate input rounding →
    (c s : ℤ) → (c *ℤ c +ℤ s *ℤ s) ≤ℤ (o.q *ℤ o.q) → (x x' y y' : List ℤ) (a a' b b' t t' u u' n spread : ℤ) → pos 0 ≤ℤ n → pos 0 ≤ℤ spread →
    PushMove o c s (gap x x') (gap y y') t t' u u' → Near spread (a -ℤ a') → Near spread (b -ℤ b') → plane_form p (gap x x') (gap y y') ≤ℤ (n *ℤ n) →
    (o.q *ℤ o.q *ℤ plane_form p (gap (next_of o x a t) (next_of o x' a' t')) (gap (next_of o y b u) (next_of o y' b' u')))
    ≤ℤ ((rate *ℤ n +ℤ input *ℤ spread +ℤ o.q *ℤ rounding) *ℤ (rate *ℤ n +ℤ input *ℤ spread +ℤ o.q *ℤ rounding))
step_contracts o p rate input rounding k c s short x x' y y' a a' b b' t t' u u' n spread n0 s0 mv na nb v =
    let q = o.q in let qq = o.q *ℤ o.q in
    let qq0 : pos 0 ≤ℤ qq = square_nonneg q in
    let q0 : pos 0 ≤ℤ q = omega (arith, ints, k.scale_positive) in
    let mn = c *ℤ mv.moved0 -ℤ s *ℤ mv.moved1 in let me = s *ℤ mv.moved0 +ℤ c *ℤ mv.moved1 in
    let ln = c *ℤ mv.left0 -ℤ s *ℤ mv.left1 in let le = s *ℤ mv.left0 +ℤ c *ℤ mv.left1 in
    let rs = turned_rest q c s mv.left0 mv.left1 q0 short mv.left_surge mv.left_sway in
    let hu = linear_square qq rate (plane_form p (gap x x') (gap y y')) n _ qq0 v
    (plane_linear p o.m k.nonneg o.thrust o.held0 o.free0 o.held1 o.free1 o.bias (rate *ℤ rate) k.surge k.sway q qq qq0 k.bias_surge k.bias_sway c s mv.moved0 mv.moved1 (gap x x') (gap y y') short mv.surge mv.sway) in
    let hy = input_below p o.correction qq input spread (a -ℤ a') (b -ℤ b') (k.nonneg o.correction) s0 k.input_enough (square_near spread (a -ℤ a') na) (square_near spread (b -ℤ b') nb) in
    let ns = numerators o x a t in let ns' = numerators o x' a' t' in let es = numerators o y b u in let es' = numerators o y' b' u' in
    let len = length-numerators o k.rows k.corrections in
    let sized = add (ones o.thrust) (scale (pos 2) o.thrust) in
    let fs = form_scale (absolute_rows p) (qq *ℤ q) sized in
    let en = rest_near p q ln o.thrust ns ns' k.scale_positive rs.0 k.thrust_low (len x a t) (len x' a' t') in
    let ee = rest_near p q le o.thrust es es' k.scale_positive rs.1 k.thrust_low (len y b u) (len y' b' u') in
    let bound : ℤ → Type 0 = λ (z : ℤ). z ≤ℤ (qq *ℤ q *ℤ (qq *ℤ q) *ℤ form (absolute_rows p) sized) in
    let en' : bound (form p (rest_of q ln o.thrust (rests q ns ns'))) = subst (λ (z : ℤ). form p (rest_of q ln o.thrust (rests q ns ns')) ≤ℤ z) fs en in
    let ee' : bound (form p (rest_of q le o.thrust (rests q es es'))) = subst (λ (z : ℤ). form p (rest_of q le o.thrust (rests q es es')) ≤ℤ z) fs ee in
    let he = rests_below q rounding (form (absolute_rows p) sized) _ _ q0 k.rounding_enough en' ee' in
    step_below p k.nonneg q (rate *ℤ n) (input *ℤ spread) rounding k.scale_positive (mul_nonneg rate n k.rate_low n0) (mul_nonneg input spread k.input_low s0) k.rounding_low
    (gap (next_of o x a t) (next_of o x' a' t')) (gap (next_of o y b u) (next_of o y' b' u'))
    (add (scale qq (apply o.m (gap x x'))) (scale mn o.thrust)) (add (scale qq (apply o.m (gap y y'))) (scale me o.thrust))
    (scale (qq *ℤ (a -ℤ a')) o.correction) (scale (qq *ℤ (b -ℤ b')) o.correction)
    (rest_of q ln o.thrust (rests q ns ns')) (rest_of q le o.thrust (rests q es es'))
    (next_gap o k.rows k.corrections x x' a a' t t' mn ln mv.push_north) (next_gap o k.rows k.corrections y y' b b' u u' me le mv.push_east)
    hu hy he
