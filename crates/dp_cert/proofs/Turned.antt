-- Both coordinates of the plane at once: the linear part of a step, with the demands' moves turned into north and east.
use Rattle.std.proofs.Common.{◌≡◌, List, [], ◌∷◌, sym, ap, subst, ◌∙◌, arith, ℤ, pos, neg_ℤ, ◌+ℤ◌, ◌-ℤ◌, ◌*ℤ◌, ◌≤ℤ◌, ◌<ℤ◌}
use Rattle.std.proofs.lemmas.Int.{ints, by_lt_z}
use Rattle.dp_form.proofs.Ring.{var, num, ◌⊕◌, ◌⊗◌, minus, ring}
use Rattle.dp_form.proofs.Order.{square_nonneg, square_zero, mul_le, le_cancel}
use Rattle.dp_form.proofs.RingLaws.{*ℤ_assoc}
use Rattle.dp_form.specs.Vectors.{dot, add, scale, apply}
use Rattle.dp_form.specs.Form.{bilinear, form, plane_form, IsNonNegative}
use Rattle.dp_form.specs.Axes.{along, across}
use Rattle.dp_form.proofs.Axes.{axes_form}
use Rattle.dp_form.proofs.Bilinear.{apply_add, apply_scale, bilinear_add, bilinear_add_right, bilinear_scale, bilinear_scale_right}
use Rattle.dp_form.proofs.Expansion.{form_two}
use Rattle.dp_cert.proofs.Line.{AxisMove, axis_below}

-- what a certificate says of one axis: the observer m with the thrust entering by w shrinks the form by rr, where the demand stays,
-- where it follows the output with the bias held, and where it follows the output with the bias free
pub record Contracts (p m : List (List ℤ)) (w hold free : List ℤ) (rr : ℤ) : Type 0 where
  pub saturated : (x : List ℤ) → form p (apply m x) ≤ℤ (rr *ℤ form p x)
  pub bias_held : (x : List ℤ) → form p (add (apply m x) (scale (neg_ℤ (dot hold x)) w)) ≤ℤ (rr *ℤ form p x)
  pub bias_free : (x : List ℤ) → form p (add (apply m x) (scale (neg_ℤ (dot free x)) w)) ≤ℤ (rr *ℤ form p x)

pub one_axis : (p m : List (List ℤ)) → IsNonNegative p → (w hold free : List ℤ) (rr : ℤ) → Contracts p m w hold free rr →
    (q qq len b moved : ℤ) (x : List ℤ) → pos 0 ≤ℤ qq → pos 0 ≤ℤ len → len ≤ℤ qq → dot free x ≡ dot hold x +ℤ q *ℤ b → AxisMove q (dot hold x) b moved →
    form p (add (scale qq (apply m x)) (scale (len *ℤ moved) w)) ≤ℤ (qq *ℤ (qq *ℤ (rr *ℤ form p x)))
one_axis p m h w hold free rr k q qq len b moved x q0 l0 l1 e a =
    axis_below p h (apply m x) w q qq len (dot hold x) b moved (rr *ℤ form p x) q0 l0 l1 a (k.saturated x) (k.bias_held x)
    (subst (λ (z : ℤ). form p (add (apply m x) (scale (neg_ℤ z) w)) ≤ℤ (rr *ℤ form p x)) e (k.bias_free x))

-- the mixed parts with w, along and across
mixed_two : (p : List (List ℤ)) (j k : ℤ) (x y w : List ℤ) →
    bilinear p (add (scale j x) (scale k y)) w +ℤ bilinear p w (add (scale j x) (scale k y)) ≡ j *ℤ (bilinear p x w +ℤ bilinear p w x) +ℤ k *ℤ (bilinear p y w +ℤ bilinear p w y)
mixed_two p j k x y w =
    let e1 : bilinear p (add (scale j x) (scale k y)) w ≡ j *ℤ bilinear p x w +ℤ k *ℤ bilinear p y w =
    bilinear_add p (scale j x) (scale k y) w ∙ ap (λ (z : ℤ). z +ℤ bilinear p (scale k y) w) (bilinear_scale p j x w) ∙ ap (λ (z : ℤ). j *ℤ bilinear p x w +ℤ z) (bilinear_scale p k y w) in
    let e2 : bilinear p w (add (scale j x) (scale k y)) ≡ j *ℤ bilinear p w x +ℤ k *ℤ bilinear p w y =
    bilinear_add_right p w (scale j x) (scale k y) ∙ ap (λ (z : ℤ). z +ℤ bilinear p w (scale k y)) (bilinear_scale_right p j w x) ∙ ap (λ (z : ℤ). j *ℤ bilinear p w x +ℤ z) (bilinear_scale_right p k w y) in
    let e3 = (ring (j ∷ (k ∷ (bilinear p x w ∷ (bilinear p w x ∷ (bilinear p y w ∷ (bilinear p w y ∷ [])))))) (var 0 ⊗ (var 2 ⊕ var 3) ⊕ var 1 ⊗ (var 4 ⊕ var 5)) (var 0 ⊗ var 2 ⊕ var 1 ⊗ var 4 ⊕ (var 0 ⊗ var 3 ⊕ var 1 ⊗ var 5)) tt) in
    omega (arith, ints, e1, e2, e3)

-- the forms of a north and an east part, turned along the axes; b and d are the mixed parts of north and east with w
turned_numbers : (c s qq g0 g1 vn ve b d vw va vb : ℤ) → (c *ℤ c +ℤ s *ℤ s) *ℤ (vn +ℤ ve) ≡ va +ℤ vb →
    (c *ℤ c +ℤ s *ℤ s) *ℤ ((qq *ℤ qq *ℤ vn +ℤ qq *ℤ (c *ℤ g0 -ℤ s *ℤ g1) *ℤ b +ℤ (c *ℤ g0 -ℤ s *ℤ g1) *ℤ (c *ℤ g0 -ℤ s *ℤ g1) *ℤ vw)
    +ℤ (qq *ℤ qq *ℤ ve +ℤ qq *ℤ (s *ℤ g0 +ℤ c *ℤ g1) *ℤ d +ℤ (s *ℤ g0 +ℤ c *ℤ g1) *ℤ (s *ℤ g0 +ℤ c *ℤ g1) *ℤ vw))
    ≡ (qq *ℤ qq *ℤ va +ℤ qq *ℤ ((c *ℤ c +ℤ s *ℤ s) *ℤ g0) *ℤ (c *ℤ b +ℤ s *ℤ d) +ℤ ((c *ℤ c +ℤ s *ℤ s) *ℤ g0) *ℤ ((c *ℤ c +ℤ s *ℤ s) *ℤ g0) *ℤ vw)
    +ℤ (qq *ℤ qq *ℤ vb +ℤ qq *ℤ ((c *ℤ c +ℤ s *ℤ s) *ℤ g1) *ℤ (c *ℤ d +ℤ (pos 0 -ℤ s) *ℤ b) +ℤ ((c *ℤ c +ℤ s *ℤ s) *ℤ g1) *ℤ ((c *ℤ c +ℤ s *ℤ s) *ℤ g1) *ℤ vw)
turned_numbers c s qq g0 g1 vn ve b d vw va vb h =
    let len = c *ℤ c +ℤ s *ℤ s in
    let rest = qq *ℤ (len *ℤ g0) *ℤ (c *ℤ b +ℤ s *ℤ d) +ℤ len *ℤ g0 *ℤ (len *ℤ g0) *ℤ vw +ℤ qq *ℤ (len *ℤ g1) *ℤ (c *ℤ d +ℤ (pos 0 -ℤ s) *ℤ b) +ℤ len *ℤ g1 *ℤ (len *ℤ g1) *ℤ vw in
    (ring (c ∷ (s ∷ (qq ∷ (g0 ∷ (g1 ∷ (vn ∷ (ve ∷ (b ∷ (d ∷ (vw ∷ [])))))))))) ((var 0 ⊗ var 0 ⊕ var 1 ⊗ var 1) ⊗ (var 2 ⊗ var 2 ⊗ var 5 ⊕ var 2 ⊗ (var 0 ⊗ var 3 ⊕ minus (var 1 ⊗ var 4)) ⊗ var 7 ⊕ (var 0 ⊗ var 3 ⊕ minus (var 1 ⊗ var 4)) ⊗ (var 0 ⊗ var 3 ⊕ minus (var 1 ⊗ var 4)) ⊗ var 9 ⊕ (var 2 ⊗ var 2 ⊗ var 6 ⊕ var 2 ⊗ (var 1 ⊗ var 3 ⊕ var 0 ⊗ var 4) ⊗ var 8 ⊕ (var 1 ⊗ var 3 ⊕ var 0 ⊗ var 4) ⊗ (var 1 ⊗ var 3 ⊕ var 0 ⊗ var 4) ⊗ var 9))) (var 2 ⊗ var 2 ⊗ ((var 0 ⊗ var 0 ⊕ var 1 ⊗ var 1) ⊗ (var 5 ⊕ var 6)) ⊕ (var 2 ⊗ ((var 0 ⊗ var 0 ⊕ var 1 ⊗ var 1) ⊗ var 3) ⊗ (var 0 ⊗ var 7 ⊕ var 1 ⊗ var 8) ⊕ (var 0 ⊗ var 0 ⊕ var 1 ⊗ var 1) ⊗ var 3 ⊗ ((var 0 ⊗ var 0 ⊕ var 1 ⊗ var 1) ⊗ var 3) ⊗ var 9 ⊕ var 2 ⊗ ((var 0 ⊗ var 0 ⊕ var 1 ⊗ var 1) ⊗ var 4) ⊗ (var 0 ⊗ var 8 ⊕ (num (pos 0) ⊕ minus (var 1)) ⊗ var 7) ⊕ (var 0 ⊗ var 0 ⊕ var 1 ⊗ var 1) ⊗ var 4 ⊗ ((var 0 ⊗ var 0 ⊕ var 1 ⊗ var 1) ⊗ var 4) ⊗ var 9)) tt)
    ∙ ap (λ (z : ℤ). qq *ℤ qq *ℤ z +ℤ rest) h
    ∙ (ring (len ∷ (c ∷ (s ∷ (qq ∷ (g0 ∷ (g1 ∷ (va ∷ (vb ∷ (b ∷ (d ∷ (vw ∷ []))))))))))) (var 3 ⊗ var 3 ⊗ (var 6 ⊕ var 7) ⊕ (var 3 ⊗ (var 0 ⊗ var 4) ⊗ (var 1 ⊗ var 8 ⊕ var 2 ⊗ var 9) ⊕ var 0 ⊗ var 4 ⊗ (var 0 ⊗ var 4) ⊗ var 10 ⊕ var 3 ⊗ (var 0 ⊗ var 5) ⊗ (var 1 ⊗ var 9 ⊕ (num (pos 0) ⊕ minus (var 2)) ⊗ var 8) ⊕ var 0 ⊗ var 5 ⊗ (var 0 ⊗ var 5) ⊗ var 10)) (var 3 ⊗ var 3 ⊗ var 6 ⊕ var 3 ⊗ (var 0 ⊗ var 4) ⊗ (var 1 ⊗ var 8 ⊕ var 2 ⊗ var 9) ⊕ var 0 ⊗ var 4 ⊗ (var 0 ⊗ var 4) ⊗ var 10 ⊕ (var 3 ⊗ var 3 ⊗ var 7 ⊕ var 3 ⊗ (var 0 ⊗ var 5) ⊗ (var 1 ⊗ var 9 ⊕ (num (pos 0) ⊕ minus (var 2)) ⊗ var 8) ⊕ var 0 ⊗ var 5 ⊗ (var 0 ⊗ var 5) ⊗ var 10)) tt)

-- north and east parts with the demands' moves g0 and g1, times the pair's square, are the parts along and across
turned_forms : (p : List (List ℤ)) (c s qq g0 g1 : ℤ) (yn ye w : List ℤ) →
    (c *ℤ c +ℤ s *ℤ s) *ℤ (form p (add (scale qq yn) (scale (c *ℤ g0 -ℤ s *ℤ g1) w)) +ℤ form p (add (scale qq ye) (scale (s *ℤ g0 +ℤ c *ℤ g1) w)))
    ≡ form p (add (scale qq (along c s yn ye)) (scale ((c *ℤ c +ℤ s *ℤ s) *ℤ g0) w)) +ℤ form p (add (scale qq (across c s yn ye)) (scale ((c *ℤ c +ℤ s *ℤ s) *ℤ g1) w))
turned_forms p c s qq g0 g1 yn ye w =
    let len = c *ℤ c +ℤ s *ℤ s in
    let tn = c *ℤ g0 -ℤ s *ℤ g1 in let te = s *ℤ g0 +ℤ c *ℤ g1 in
    let b = bilinear p yn w +ℤ bilinear p w yn in let d = bilinear p ye w +ℤ bilinear p w ye in
    let vw = form p w in
    let ya = along c s yn ye in let yc = across c s yn ye in
    ap (λ (z : ℤ). len *ℤ (z +ℤ form p (add (scale qq ye) (scale te w)))) (form_two p qq tn yn w)
    ∙ ap (λ (z : ℤ). len *ℤ ((qq *ℤ qq *ℤ form p yn +ℤ qq *ℤ tn *ℤ b +ℤ tn *ℤ tn *ℤ vw) +ℤ z)) (form_two p qq te ye w)
    ∙ turned_numbers c s qq g0 g1 (form p yn) (form p ye) b d vw (form p ya) (form p yc) (axes_form p c s yn ye)
    ∙ ap (λ (z : ℤ). (qq *ℤ qq *ℤ form p ya +ℤ qq *ℤ (len *ℤ g0) *ℤ z +ℤ (len *ℤ g0) *ℤ (len *ℤ g0) *ℤ vw) +ℤ (qq *ℤ qq *ℤ form p yc +ℤ qq *ℤ (len *ℤ g1) *ℤ (c *ℤ d +ℤ (pos 0 -ℤ s) *ℤ b) +ℤ (len *ℤ g1) *ℤ (len *ℤ g1) *ℤ vw)) (sym (mixed_two p c s yn ye w))
    ∙ ap (λ (z : ℤ). (qq *ℤ qq *ℤ form p ya +ℤ qq *ℤ (len *ℤ g0) *ℤ (bilinear p ya w +ℤ bilinear p w ya) +ℤ (len *ℤ g0) *ℤ (len *ℤ g0) *ℤ vw) +ℤ (qq *ℤ qq *ℤ form p yc +ℤ qq *ℤ (len *ℤ g1) *ℤ z +ℤ (len *ℤ g1) *ℤ (len *ℤ g1) *ℤ vw)) (sym (mixed_two p c (pos 0 -ℤ s) ye yn w))
    ∙ ap (λ (z : ℤ). z +ℤ (qq *ℤ qq *ℤ form p yc +ℤ qq *ℤ (len *ℤ g1) *ℤ (bilinear p yc w +ℤ bilinear p w yc) +ℤ (len *ℤ g1) *ℤ (len *ℤ g1) *ℤ vw)) (sym (form_two p qq (len *ℤ g0) ya w))
    ∙ ap (λ (z : ℤ). form p (add (scale qq ya) (scale (len *ℤ g0) w)) +ℤ z) (sym (form_two p qq (len *ℤ g1) yc w))

along_applied : (m : List (List ℤ)) (c s : ℤ) (x y : List ℤ) → apply m (along c s x y) ≡ along c s (apply m x) (apply m y)
along_applied m c s x y = apply_add m (scale c x) (scale s y) ∙ ap (λ (z : List ℤ). add z (apply m (scale s y))) (apply_scale m c x) ∙ ap (add (scale c (apply m x))) (apply_scale m s y)

-- with a factor above 0 dropped
combined : (len qq rr u a b x f f' : ℤ) → pos 0 <ℤ len → len *ℤ u ≡ a +ℤ b → len *ℤ x ≡ f +ℤ f' → a ≤ℤ (qq *ℤ (qq *ℤ (rr *ℤ f))) → b ≤ℤ (qq *ℤ (qq *ℤ (rr *ℤ f'))) → u ≤ℤ (qq *ℤ (qq *ℤ (rr *ℤ x)))
combined len qq rr u a b x f f' l e1 e2 i j =
    let e6 : len *ℤ (qq *ℤ (qq *ℤ (rr *ℤ x))) ≡ qq *ℤ (qq *ℤ (rr *ℤ f)) +ℤ qq *ℤ (qq *ℤ (rr *ℤ f')) =
    (ring (len ∷ (qq ∷ (rr ∷ (x ∷ [])))) (var 0 ⊗ (var 1 ⊗ (var 1 ⊗ (var 2 ⊗ var 3)))) (var 1 ⊗ (var 1 ⊗ (var 2 ⊗ (var 0 ⊗ var 3)))) tt)
    ∙ ap (λ (z : ℤ). qq *ℤ (qq *ℤ (rr *ℤ z))) e2
    ∙ (ring (qq ∷ (rr ∷ (f ∷ (f' ∷ [])))) (var 0 ⊗ (var 0 ⊗ (var 1 ⊗ (var 2 ⊕ var 3)))) (var 0 ⊗ (var 0 ⊗ (var 1 ⊗ var 2)) ⊕ var 0 ⊗ (var 0 ⊗ (var 1 ⊗ var 3))) tt) in
    le_cancel len u (qq *ℤ (qq *ℤ (rr *ℤ x))) l (last (len *ℤ u) (len *ℤ (qq *ℤ (qq *ℤ (rr *ℤ x)))) a b (qq *ℤ (qq *ℤ (rr *ℤ f))) (qq *ℤ (qq *ℤ (rr *ℤ f'))) e1 e6 i j)
  where
    last : (lu lx a b u v : ℤ) → lu ≡ a +ℤ b → lx ≡ u +ℤ v → a ≤ℤ u → b ≤ℤ v → lu ≤ℤ lx
    last lu lx a b u v e1 e2 i j = omega (arith, ints)

one_still : (p m : List (List ℤ)) (w : List ℤ) (rr qq : ℤ) → ((x : List ℤ) → form p (apply m x) ≤ℤ (rr *ℤ form p x)) → (z : List ℤ) (t : ℤ) → t ≡ pos 0 →
    form p (add (scale qq (apply m z)) (scale t w)) ≤ℤ (qq *ℤ (qq *ℤ (rr *ℤ form p z)))
one_still p m w rr qq h z t e =
    let v = form p (apply m z) in let b = bilinear p (apply m z) w +ℤ bilinear p w (apply m z) in
    let f : form p (add (scale qq (apply m z)) (scale t w)) ≡ qq *ℤ (qq *ℤ v) =
    form_two p qq t (apply m z) w ∙ ap (λ (k : ℤ). qq *ℤ qq *ℤ v +ℤ qq *ℤ k *ℤ b +ℤ k *ℤ k *ℤ form p w) e
    ∙ (ring (qq ∷ (v ∷ (b ∷ (form p w ∷ [])))) (var 0 ⊗ var 0 ⊗ var 1 ⊕ var 0 ⊗ num (pos 0) ⊗ var 2 ⊕ num (pos 0) ⊗ num (pos 0) ⊗ var 3) (var 0 ⊗ (var 0 ⊗ var 1)) tt) in
    let k = mul_le (qq *ℤ qq) v (rr *ℤ form p z) (square_nonneg qq) (h z) in
    let e1 = *ℤ_assoc qq qq v in let e2 = *ℤ_assoc qq qq (rr *ℤ form p z) in
    omega (arith, ints, f, k, e1, e2)

-- a pair of no length is (0, 0), and the demands do not reach the velocity
still : (p m : List (List ℤ)) (w : List ℤ) (rr qq c s g0 g1 : ℤ) → ((x : List ℤ) → form p (apply m x) ≤ℤ (rr *ℤ form p x)) → (x y : List ℤ) → (c *ℤ c +ℤ s *ℤ s) ≤ℤ pos 0 →
    (form p (add (scale qq (apply m x)) (scale (c *ℤ g0 -ℤ s *ℤ g1) w)) +ℤ form p (add (scale qq (apply m y)) (scale (s *ℤ g0 +ℤ c *ℤ g1) w))) ≤ℤ (qq *ℤ (qq *ℤ (rr *ℤ (form p x +ℤ form p y))))
still p m w rr qq c s g0 g1 h x y l =
    let sc = square_nonneg c in let ss = square_nonneg s in
    let c0 : c ≡ pos 0 = square_zero c (omega (arith, ints)) in
    let s0 : s ≡ pos 0 = square_zero s (omega (arith, ints)) in
    let en : c *ℤ g0 -ℤ s *ℤ g1 ≡ pos 0 = ap (λ (z : ℤ). z *ℤ g0 -ℤ s *ℤ g1) c0 ∙ ap (λ (z : ℤ). pos 0 *ℤ g0 -ℤ z *ℤ g1) s0 ∙ (ring (g0 ∷ (g1 ∷ [])) (num (pos 0) ⊗ var 0 ⊕ minus (num (pos 0) ⊗ var 1)) (num (pos 0)) tt) in
    let ee : s *ℤ g0 +ℤ c *ℤ g1 ≡ pos 0 = ap (λ (z : ℤ). z *ℤ g0 +ℤ c *ℤ g1) s0 ∙ ap (λ (z : ℤ). pos 0 *ℤ g0 +ℤ z *ℤ g1) c0 ∙ (ring (g0 ∷ (g1 ∷ [])) (num (pos 0) ⊗ var 0 ⊕ num (pos 0) ⊗ var 1) (num (pos 0)) tt) in
    let fn = one_still p m w rr qq h x (c *ℤ g0 -ℤ s *ℤ g1) en in
    let fe = one_still p m w rr qq h y (s *ℤ g0 +ℤ c *ℤ g1) ee in
    let e = (ring (qq ∷ (rr ∷ (form p x ∷ (form p y ∷ [])))) (var 0 ⊗ (var 0 ⊗ (var 1 ⊗ (var 2 ⊕ var 3)))) (var 0 ⊗ (var 0 ⊗ (var 1 ⊗ var 2)) ⊕ var 0 ⊗ (var 0 ⊗ (var 1 ⊗ var 3))) tt) in
    omega (arith, ints, fn, fe, e)

-- the linear part of a step, for any pair no longer than the scale
pub plane_linear : (p m : List (List ℤ)) → IsNonNegative p → (w hold0 free0 hold1 free1 u : List ℤ) (rr : ℤ) →
    Contracts p m w hold0 free0 rr → Contracts p m w hold1 free1 rr → (q qq : ℤ) → pos 0 ≤ℤ qq →
    ((x : List ℤ) → dot free0 x ≡ dot hold0 x +ℤ q *ℤ dot u x) → ((x : List ℤ) → dot free1 x ≡ dot hold1 x +ℤ q *ℤ dot u x) →
    (c s g0 g1 : ℤ) (x y : List ℤ) → (c *ℤ c +ℤ s *ℤ s) ≤ℤ qq →
    AxisMove q (dot hold0 (along c s x y)) (dot u (along c s x y)) g0 → AxisMove q (dot hold1 (across c s x y)) (dot u (across c s x y)) g1 →
    (form p (add (scale qq (apply m x)) (scale (c *ℤ g0 -ℤ s *ℤ g1) w)) +ℤ form p (add (scale qq (apply m y)) (scale (s *ℤ g0 +ℤ c *ℤ g1) w))) ≤ℤ (qq *ℤ (qq *ℤ (rr *ℤ plane_form p x y)))
plane_linear p m h w hold0 free0 hold1 free1 u rr k0 k1 q qq q0 f0 f1 c s g0 g1 x y short a0 a1 =
    let len = c *ℤ c +ℤ s *ℤ s in
    by_lt_z (pos 0) len
    (λ l.
    let l0 : pos 0 ≤ℤ len = omega (arith, ints) in
    let ea = along_applied m c s x y in let ec = along_applied m c (pos 0 -ℤ s) y x in
    let i0 = subst (λ (z : List ℤ). form p (add (scale qq z) (scale (len *ℤ g0) w)) ≤ℤ (qq *ℤ (qq *ℤ (rr *ℤ form p (along c s x y))))) ea
    (one_axis p m h w hold0 free0 rr k0 q qq len (dot u (along c s x y)) g0 (along c s x y) q0 l0 short (f0 (along c s x y)) a0) in
    let i1 = subst (λ (z : List ℤ). form p (add (scale qq z) (scale (len *ℤ g1) w)) ≤ℤ (qq *ℤ (qq *ℤ (rr *ℤ form p (across c s x y))))) ec
    (one_axis p m h w hold1 free1 rr k1 q qq len (dot u (across c s x y)) g1 (across c s x y) q0 l0 short (f1 (across c s x y)) a1) in
    combined len qq rr
    (form p (add (scale qq (apply m x)) (scale (c *ℤ g0 -ℤ s *ℤ g1) w)) +ℤ form p (add (scale qq (apply m y)) (scale (s *ℤ g0 +ℤ c *ℤ g1) w)))
    (form p (add (scale qq (along c s (apply m x) (apply m y))) (scale (len *ℤ g0) w)))
    (form p (add (scale qq (across c s (apply m x) (apply m y))) (scale (len *ℤ g1) w)))
    (plane_form p x y) (form p (along c s x y)) (form p (across c s x y)) l
    (turned_forms p c s qq g0 g1 (apply m x) (apply m y) w) (axes_form p c s x y) i0 i1)
    (λ l. still p m w rr qq c s g0 g1 k0.saturated x y l)
