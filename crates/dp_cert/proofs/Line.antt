-- Three points on a line, each with a small form; what a share of a demand reaches lies between them.
use Rattle.std.proofs.Common.{◌≡◌, List, [], ◌∷◌, sym, ap, subst, ◌∙◌, arith, ℤ, pos, neg_ℤ, ◌+ℤ◌, ◌-ℤ◌, ◌*ℤ◌, ◌≤ℤ◌, ◌<ℤ◌}
use Rattle.std.proofs.lemmas.Int.{ints}
use Rattle.std.proofs.lemmas.List.Elements.{All-nil, All-cons}
use lib.IntN.{+ℤ_idr, *ℤ_comm}
use Rattle.dp_form.proofs.Ring.{var, ◌⊕◌, ◌⊗◌, minus, ring}
use Rattle.dp_form.proofs.Order.{mul_nonneg, mul_le, mul_pos, le_cancel}
use Rattle.dp_form.specs.Vectors.{add, scale}
use Rattle.dp_form.specs.Form.{form, IsNonNegative}
use Rattle.dp_form.specs.Mix.{Weighted, mixture}
use Rattle.dp_form.specs.Clamp.{Share}
use Rattle.dp_form.proofs.Bilinear.{add_nil}
use Rattle.dp_form.proofs.Expansion.{form_scale}
use Rattle.dp_form.proofs.Mix.{mix_below}
use Rattle.dp_cert.proofs.VectorSums.{add_assoc, scale_sum, lines_sum, line_scaled, point_scaled}

abbrev point : ℤ → ℤ → List ℤ → List ℤ → Weighted
point k t y w = record { weight = k; vector = add y (scale t w) }

abbrev points : ℤ → ℤ → ℤ → ℤ → ℤ → List ℤ → List ℤ → List Weighted
points w0 w1 w2 t1 t2 y w = record { weight = w0; vector = y } ∷ (point w1 t1 y w ∷ (point w2 t2 y w ∷ []))

points_mixture : (w0 w1 w2 t1 t2 : ℤ) (y w : List ℤ) →
    mixture (points w0 w1 w2 t1 t2 y w) ≡ add (scale (w0 +ℤ (w1 +ℤ w2)) y) (scale (w1 *ℤ t1 +ℤ w2 *ℤ t2) w)
points_mixture w0 w1 w2 t1 t2 y w =
    ap (λ (z : List ℤ). add (scale w0 y) (add (scale w1 (add y (scale t1 w))) z)) (add_nil (scale w2 (add y (scale t2 w))))
    ∙ ap (λ (z : List ℤ). add (scale w0 y) (add z (scale w2 (add y (scale t2 w))))) (point_scaled w1 t1 y w)
    ∙ ap (λ (z : List ℤ). add (scale w0 y) (add (add (scale w1 y) (scale (w1 *ℤ t1) w)) z)) (point_scaled w2 t2 y w)
    ∙ ap (add (scale w0 y)) (lines_sum w1 w2 (w1 *ℤ t1) (w2 *ℤ t2) y w)
    ∙ sym (add_assoc (scale w0 y) (scale (w1 +ℤ w2) y) (scale (w1 *ℤ t1 +ℤ w2 *ℤ t2) w))
    ∙ ap (λ (z : List ℤ). add z (scale (w1 *ℤ t1 +ℤ w2 *ℤ t2) w)) (sym (scale_sum w0 (w1 +ℤ w2) y))

pub line_below : (p : List (List ℤ)) → IsNonNegative p → (y w : List ℤ) (w0 w1 w2 t1 t2 r : ℤ) →
    pos 0 ≤ℤ w0 → pos 0 ≤ℤ w1 → pos 0 ≤ℤ w2 →
    form p y ≤ℤ r → form p (add y (scale t1 w)) ≤ℤ r → form p (add y (scale t2 w)) ≤ℤ r →
    form p (add (scale (w0 +ℤ (w1 +ℤ w2)) y) (scale (w1 *ℤ t1 +ℤ w2 *ℤ t2) w)) ≤ℤ ((w0 +ℤ (w1 +ℤ w2)) *ℤ ((w0 +ℤ (w1 +ℤ w2)) *ℤ r))
line_below p h y w w0 w1 w2 t1 t2 r h0 h1 h2 r0 r1 r2 =
    let a = point w1 t1 y w in let b = point w2 t2 y w in let o : Weighted = record { weight = w0; vector = y } in
    let P : Weighted → Type 0 = λ (z : Weighted). pos 0 ≤ℤ z.weight in
    let R : Weighted → Type 0 = λ (z : Weighted). form p z.vector ≤ℤ r in
    let m : form p (mixture (points w0 w1 w2 t1 t2 y w)) ≤ℤ ((w0 +ℤ (w1 +ℤ (w2 +ℤ pos 0))) *ℤ ((w0 +ℤ (w1 +ℤ (w2 +ℤ pos 0))) *ℤ r)) =
    mix_below p h r (points w0 w1 w2 t1 t2 y w)
    (All-cons P o (a ∷ (b ∷ [])) h0 (All-cons P a (b ∷ []) h1 (All-cons P b [] h2 (All-nil P))))
    (All-cons R o (a ∷ (b ∷ [])) r0 (All-cons R a (b ∷ []) r1 (All-cons R b [] r2 (All-nil R)))) in
    let n : form p (mixture (points w0 w1 w2 t1 t2 y w)) ≤ℤ ((w0 +ℤ (w1 +ℤ w2)) *ℤ ((w0 +ℤ (w1 +ℤ w2)) *ℤ r)) =
    subst (λ (z : ℤ). form p (mixture (points w0 w1 w2 t1 t2 y w)) ≤ℤ ((w0 +ℤ (w1 +ℤ z)) *ℤ ((w0 +ℤ (w1 +ℤ z)) *ℤ r))) (+ℤ_idr w2) m in
    subst (λ (z : List ℤ). form p z ≤ℤ ((w0 +ℤ (w1 +ℤ w2)) *ℤ ((w0 +ℤ (w1 +ℤ w2)) *ℤ r))) (points_mixture w0 w1 w2 t1 t2 y w) n

-- ---- how an axis' demand moves between two runs: what is asked without the bias by -o, the bias by b, the demand by moved
pub record AxisMove (q o b moved : ℤ) : Type 0 where
  pub held : ℤ
  pub bias : Share b held
  pub box : Share (neg_ℤ (o +ℤ q *ℤ held)) moved

-- the weights of the three vertices, for the box's share m of d, the bias's share n of e, and the pair's square len
weights_sum : (qq d m e n len : ℤ) → e *ℤ (d *ℤ qq -ℤ m *ℤ len) +ℤ ((e -ℤ n) *ℤ (m *ℤ len) +ℤ n *ℤ (m *ℤ len)) ≡ (d *ℤ e) *ℤ qq
weights_sum qq d m e n len = (ring (qq ∷ (d ∷ (m ∷ (e ∷ (n ∷ (len ∷ [])))))) (var 3 ⊗ (var 1 ⊗ var 0 ⊕ minus (var 2 ⊗ var 5)) ⊕ ((var 3 ⊕ minus (var 4)) ⊗ (var 2 ⊗ var 5) ⊕ var 4 ⊗ (var 2 ⊗ var 5))) (var 1 ⊗ var 3 ⊗ var 0) tt)

weighted_thrust : (q d m e n len o b gb gz : ℤ) → e *ℤ gb ≡ n *ℤ b → d *ℤ gz ≡ m *ℤ neg_ℤ (o +ℤ q *ℤ gb) →
    (e -ℤ n) *ℤ (m *ℤ len) *ℤ neg_ℤ o +ℤ n *ℤ (m *ℤ len) *ℤ neg_ℤ (o +ℤ q *ℤ b) ≡ (d *ℤ e) *ℤ (len *ℤ gz)
weighted_thrust q d m e n len o b gb gz eb ez =
    (ring (q ∷ (m ∷ (e ∷ (n ∷ (len ∷ (o ∷ (b ∷ []))))))) ((var 2 ⊕ minus (var 3)) ⊗ (var 1 ⊗ var 4) ⊗ minus (var 5) ⊕ var 3 ⊗ (var 1 ⊗ var 4) ⊗ minus (var 5 ⊕ var 0 ⊗ var 6)) (minus (var 1 ⊗ var 4 ⊗ (var 2 ⊗ var 5 ⊕ var 0 ⊗ (var 3 ⊗ var 6)))) tt)
    ∙ ap (λ (z : ℤ). neg_ℤ (m *ℤ len *ℤ (e *ℤ o +ℤ q *ℤ z))) (sym eb)
    ∙ (ring (q ∷ (m ∷ (e ∷ (len ∷ (o ∷ (gb ∷ [])))))) (minus (var 1 ⊗ var 3 ⊗ (var 2 ⊗ var 4 ⊕ var 0 ⊗ (var 2 ⊗ var 5)))) (var 3 ⊗ (var 2 ⊗ (var 1 ⊗ minus (var 4 ⊕ var 0 ⊗ var 5)))) tt)
    ∙ ap (λ (z : ℤ). len *ℤ (e *ℤ z)) (sym ez)
    ∙ (ring (d ∷ (e ∷ (len ∷ (gz ∷ [])))) (var 2 ⊗ (var 1 ⊗ (var 0 ⊗ var 3))) (var 0 ⊗ var 1 ⊗ (var 2 ⊗ var 3)) tt)

cancel_square : (s q f r : ℤ) → pos 0 <ℤ s → (s *ℤ s *ℤ f) ≤ℤ (s *ℤ q *ℤ (s *ℤ q *ℤ r)) → f ≤ℤ (q *ℤ (q *ℤ r))
cancel_square s q f r h k =
    let e = (ring (s ∷ (q ∷ (r ∷ []))) (var 0 ⊗ var 1 ⊗ (var 0 ⊗ var 1 ⊗ var 2)) (var 0 ⊗ var 0 ⊗ (var 1 ⊗ (var 1 ⊗ var 2))) tt) in
    le_cancel (s *ℤ s) f (q *ℤ (q *ℤ r)) (mul_pos s s h h) (omega (arith, ints))

-- where the form is at most r at y, and at y with the demand's move for each of the two outputs, then so it is for a share
pub axis_below : (p : List (List ℤ)) → IsNonNegative p → (y w : List ℤ) (q qq len o b moved r : ℤ) → pos 0 ≤ℤ qq → pos 0 ≤ℤ len → len ≤ℤ qq →
    AxisMove q o b moved →
    form p y ≤ℤ r → form p (add y (scale (neg_ℤ o) w)) ≤ℤ r → form p (add y (scale (neg_ℤ (o +ℤ q *ℤ b)) w)) ≤ℤ r →
    form p (add (scale qq y) (scale (len *ℤ moved) w)) ≤ℤ (qq *ℤ (qq *ℤ r))
axis_below p h y w q qq len o b moved r qq0 l0 l1 a r0 r1 r2 =
    let d = a.box.whole in let m = a.box.part in let e = a.bias.whole in let n = a.bias.part in
    let a1 = mul_le m len qq a.box.from_zero l1 in
    let a2 = mul_le qq m d qq0 a.box.to_one in
    let a3 = *ℤ_comm qq m in let a4 = *ℤ_comm qq d in
    let ml = mul_nonneg m len a.box.from_zero l0 in
    let e0 : pos 0 ≤ℤ e = omega (arith, ints, a.bias.whole_positive) in
    let e1 : pos 0 ≤ℤ (e -ℤ n) = omega (arith, ints, a.bias.to_one) in
    let w0 = e *ℤ (d *ℤ qq -ℤ m *ℤ len) in let w1 = (e -ℤ n) *ℤ (m *ℤ len) in let w2 = n *ℤ (m *ℤ len) in
    let k0 : pos 0 ≤ℤ w0 = mul_nonneg e (d *ℤ qq -ℤ m *ℤ len) e0 (omega (arith, ints)) in
    let k1 : pos 0 ≤ℤ w1 = mul_nonneg (e -ℤ n) (m *ℤ len) e1 ml in
    let k2 : pos 0 ≤ℤ w2 = mul_nonneg n (m *ℤ len) a.bias.from_zero ml in
    let t1 = neg_ℤ o in let t2 = neg_ℤ (o +ℤ q *ℤ b) in
    let sum : w0 +ℤ (w1 +ℤ w2) ≡ (d *ℤ e) *ℤ qq = weights_sum qq d m e n len in
    let thrust : w1 *ℤ t1 +ℤ w2 *ℤ t2 ≡ (d *ℤ e) *ℤ (len *ℤ moved) = weighted_thrust q d m e n len o b a.held moved a.bias.is_share a.box.is_share in
    let k = line_below p h y w w0 w1 w2 t1 t2 r k0 k1 k2 r0 r1 r2 in
    let j : form p (add (scale ((d *ℤ e) *ℤ qq) y) (scale (w1 *ℤ t1 +ℤ w2 *ℤ t2) w)) ≤ℤ ((d *ℤ e) *ℤ qq *ℤ ((d *ℤ e) *ℤ qq *ℤ r)) =
    subst (λ (z : ℤ). form p (add (scale z y) (scale (w1 *ℤ t1 +ℤ w2 *ℤ t2) w)) ≤ℤ (z *ℤ (z *ℤ r))) sum k in
    let i : form p (add (scale ((d *ℤ e) *ℤ qq) y) (scale ((d *ℤ e) *ℤ (len *ℤ moved)) w)) ≤ℤ ((d *ℤ e) *ℤ qq *ℤ ((d *ℤ e) *ℤ qq *ℤ r)) =
    subst (λ (z : ℤ). form p (add (scale ((d *ℤ e) *ℤ qq) y) (scale z w)) ≤ℤ ((d *ℤ e) *ℤ qq *ℤ ((d *ℤ e) *ℤ qq *ℤ r))) thrust j in
    let g : form p (scale (d *ℤ e) (add (scale qq y) (scale (len *ℤ moved) w))) ≤ℤ ((d *ℤ e) *ℤ qq *ℤ ((d *ℤ e) *ℤ qq *ℤ r)) =
    subst (λ (z : List ℤ). form p z ≤ℤ ((d *ℤ e) *ℤ qq *ℤ ((d *ℤ e) *ℤ qq *ℤ r))) (sym (line_scaled (d *ℤ e) qq (len *ℤ moved) y w)) i in
    let f : ((d *ℤ e) *ℤ (d *ℤ e) *ℤ form p (add (scale qq y) (scale (len *ℤ moved) w))) ≤ℤ ((d *ℤ e) *ℤ qq *ℤ ((d *ℤ e) *ℤ qq *ℤ r)) =
    subst (λ (z : ℤ). z ≤ℤ ((d *ℤ e) *ℤ qq *ℤ ((d *ℤ e) *ℤ qq *ℤ r))) (form_scale p (d *ℤ e) (add (scale qq y) (scale (len *ℤ moved) w))) g in
    cancel_square (d *ℤ e) qq (form p (add (scale qq y) (scale (len *ℤ moved) w))) r (mul_pos d e a.box.whole_positive a.bias.whole_positive) f
