-- A sound certificate of three states, read as numbers: what it says of the plane's loop.
use Rattle.std.proofs.Common.{◌≡◌, ℕ, List, [], ◌∷◌, length, refl, sym, ap, subst, ◌∙◌, arith, ℤ, pos, negsuc, neg_ℤ, ◌+ℤ◌, ◌-ℤ◌, ◌*ℤ◌, ◌≤ℤ◌}
use Rattle.std.proofs.lemmas.Int.{ints}
use Rattle.dp_form.proofs.Ring.{var, num, ◌⊕◌, ◌⊗◌, minus, ring}
use Rattle.dp_fixed.specs.Scale.{full_scale}
use Rattle.dp_form.specs.Vectors.{dot, add, scale, apply, matrix_add, outer}
use Rattle.dp_form.specs.Form.{form}
use Rattle.dp_form.proofs.Bilinear.{apply_outer, dot_scale}
use Rattle.dp_plant.specs.declared.cert.Cert.{Cert}
use Rattle.dp_plant.specs.declared.cert.Lists.{Lists}
use Rattle.dp_plant.specs.declared.gains.Gains.{Gains}
use Rattle.dp_plant.specs.Vectors.{entry}
use Rattle.dp_cert.specs.InRange.{AreNumbers}
use Rattle.dp_cert.specs.Loop.{vertex, correction, output, loop_three}
use Rattle.dp_cert.specs.Sound.{Shrinks, BoundsOutput, IsSoundLoop}
use Rattle.dp_cert.proofs.VectorSums.{apply_sum}
use Rattle.dp_cert.proofs.MatrixForms.{shrinks, output_below}
use Rattle.dp_cert.proofs.Near.{Near}
use Rattle.dp_cert.proofs.Turned.{Contracts}
use Rattle.dp_cert.proofs.Steps.{Observer, Certified, BoundsDemands}

-- the thrust enters the velocity, and the bias is the second state
abbrev pub velocity_unit : List ℤ
velocity_unit = pos 0 ∷ (pos 0 ∷ (pos 1 ∷ []))

abbrev pub bias_unit : List ℤ
bias_unit = pos 0 ∷ (pos 1 ∷ (pos 0 ∷ []))

abbrev pub observer_three : Gains → Observer
observer_three g = record {
  q = full_scale;
  m = vertex g 0 0;
  correction = correction g;
  thrust = velocity_unit;
  bias = bias_unit;
  held0 = output g 0 1;
  free0 = output g 0 0;
  held1 = output g 1 1;
  free1 = output g 1 0;
}

three : (a b c x y z : ℤ) → a ≡ x → b ≡ y → c ≡ z → a ∷ (b ∷ (c ∷ [])) ≡ x ∷ (y ∷ (z ∷ []))
three a b c x y z p q r = cc

three_rows : (a b c x y z : List ℤ) → a ≡ x → b ≡ y → c ≡ z → a ∷ (b ∷ (c ∷ [])) ≡ x ∷ (y ∷ (z ∷ []))
three_rows a b c x y z p q r = cc

-- a row with nothing of the output in it, and the velocity's row less the output
row_kept : (a b c k f d : ℤ) → a ∷ (b ∷ (c ∷ [])) ≡ add (a ∷ (b ∷ (c ∷ []))) (scale (pos 0) (scale (negsuc 0) (k ∷ (f ∷ (d ∷ [])))))
row_kept a b c k f d = three _ _ _ _ _ _
    (ring (a ∷ (k ∷ [])) (var 0) (var 0 ⊕ num (pos 0) ⊗ (num (negsuc 0) ⊗ var 1)) tt)
    (ring (b ∷ (f ∷ [])) (var 0) (var 0 ⊕ num (pos 0) ⊗ (num (negsuc 0) ⊗ var 1)) tt)
    (ring (c ∷ (d ∷ [])) (var 0) (var 0 ⊕ num (pos 0) ⊗ (num (negsuc 0) ⊗ var 1)) tt)

held_row : (q k4 damp k d : ℤ) → (neg_ℤ k4 -ℤ k) ∷ (q ∷ ((q -ℤ damp -ℤ d) ∷ [])) ≡ add (neg_ℤ k4 ∷ (q ∷ ((q -ℤ damp) ∷ []))) (scale (pos 1) (scale (negsuc 0) (k ∷ (pos 0 ∷ (d ∷ [])))))
held_row q k4 damp k d = three _ _ _ _ _ _
    (ring (k4 ∷ (k ∷ [])) (minus (var 0) ⊕ minus (var 1)) (minus (var 0) ⊕ num (pos 1) ⊗ (num (negsuc 0) ⊗ var 1)) tt)
    (ring (q ∷ []) (var 0) (var 0 ⊕ num (pos 1) ⊗ (num (negsuc 0) ⊗ num (pos 0))) tt)
    (ring (q ∷ (damp ∷ (d ∷ []))) (var 0 ⊕ minus (var 1) ⊕ minus (var 2)) (var 0 ⊕ minus (var 1) ⊕ num (pos 1) ⊗ (num (negsuc 0) ⊗ var 2)) tt)

free_row : (q k4 damp k d : ℤ) → (neg_ℤ k4 -ℤ k) ∷ (pos 0 ∷ ((q -ℤ damp -ℤ d) ∷ [])) ≡ add (neg_ℤ k4 ∷ (q ∷ ((q -ℤ damp) ∷ []))) (scale (pos 1) (scale (negsuc 0) (k ∷ (q ∷ (d ∷ [])))))
free_row q k4 damp k d = three _ _ _ _ _ _
    (ring (k4 ∷ (k ∷ [])) (minus (var 0) ⊕ minus (var 1)) (minus (var 0) ⊕ num (pos 1) ⊗ (num (negsuc 0) ⊗ var 1)) tt)
    (ring (q ∷ []) (num (pos 0)) (var 0 ⊕ num (pos 1) ⊗ (num (negsuc 0) ⊗ var 0)) tt)
    (ring (q ∷ (damp ∷ (d ∷ []))) (var 0 ⊕ minus (var 1) ⊕ minus (var 2)) (var 0 ⊕ minus (var 1) ⊕ num (pos 1) ⊗ (num (negsuc 0) ⊗ var 2)) tt)

-- the vertices with the bias clamped, and with neither, are that of a saturated thrust less the outputs in the velocity's row
vertex_held : (g : Gains) (axis : ℕ) → vertex g axis 1 ≡ matrix_add (vertex g 0 0) (outer velocity_unit (scale (negsuc 0) (output g axis 1)))
vertex_held g axis = three_rows _ _ _ _ _ _
    (row_kept (full_scale -ℤ g.k2) (pos 0) full_scale (entry g.kp axis) (pos 0) (entry g.kd axis))
    (row_kept (neg_ℤ g.k3) (full_scale -ℤ g.leak) (pos 0) (entry g.kp axis) (pos 0) (entry g.kd axis))
    (held_row full_scale g.k4 g.damp (entry g.kp axis) (entry g.kd axis))

vertex_free : (g : Gains) (axis : ℕ) → vertex g axis 2 ≡ matrix_add (vertex g 0 0) (outer velocity_unit (scale (negsuc 0) (output g axis 0)))
vertex_free g axis = three_rows _ _ _ _ _ _
    (row_kept (full_scale -ℤ g.k2) (pos 0) full_scale (entry g.kp axis) full_scale (entry g.kd axis))
    (row_kept (neg_ℤ g.k3) (full_scale -ℤ g.leak) (pos 0) (entry g.kp axis) full_scale (entry g.kd axis))
    (free_row full_scale g.k4 g.damp (entry g.kp axis) (entry g.kd axis))

negated : (z : ℤ) → negsuc 0 *ℤ z ≡ neg_ℤ z
negated z = omega (arith, ints)

-- a matrix less an output, applied: any size
pub applied_less : (m a : List (List ℤ)) (w o x : List ℤ) → a ≡ matrix_add m (outer w (scale (negsuc 0) o)) → apply a x ≡ add (apply m x) (scale (neg_ℤ (dot o x)) w)
applied_less m a w o x e =
    ap (λ (z : List (List ℤ)). apply z x) e ∙ apply_sum m (outer w (scale (negsuc 0) o)) x
    ∙ ap (add (apply m x)) (apply_outer w (scale (negsuc 0) o) x ∙ ap (λ (z : ℤ). scale z w) (dot_scale (negsuc 0) o x ∙ negated (dot o x)))

-- the three vertices' conditions, as they are used
pub contracts : (p m a0 a1 a2 : List (List ℤ)) (w hold free : List ℤ) (rr : ℤ) → m ≡ a0 →
    a1 ≡ matrix_add m (outer w (scale (negsuc 0) hold)) → a2 ≡ matrix_add m (outer w (scale (negsuc 0) free)) →
    ((x : List ℤ) → form p (apply a0 x) ≤ℤ (rr *ℤ form p x)) → ((x : List ℤ) → form p (apply a1 x) ≤ℤ (rr *ℤ form p x)) → ((x : List ℤ) → form p (apply a2 x) ≤ℤ (rr *ℤ form p x)) →
    Contracts p m w hold free rr
contracts p m a0 a1 a2 w hold free rr e0 e1 e2 h0 h1 h2 = record {
  saturated = λ x. subst (λ (z : List (List ℤ)). form p (apply z x) ≤ℤ (rr *ℤ form p x)) (sym e0) (h0 x);
  bias_held = λ x. subst (λ (z : List ℤ). form p z ≤ℤ (rr *ℤ form p x)) (applied_less m a1 w hold x e1) (h1 x);
  bias_free = λ x. subst (λ (z : List ℤ). form p z ≤ℤ (rr *ℤ form p x)) (applied_less m a2 w free x e2) (h2 x);
}

-- one entry of the outputs' difference, and the end of the lists
bias_entry : (q k u a r s t : ℤ) → r ≡ s +ℤ q *ℤ t → (k +ℤ q *ℤ u) *ℤ a +ℤ r ≡ (k *ℤ a +ℤ s) +ℤ q *ℤ (u *ℤ a +ℤ t)
bias_entry q k u a r s t e =
    ap (λ (z : ℤ). (k +ℤ q *ℤ u) *ℤ a +ℤ z) e ∙ (ring (q ∷ (k ∷ (u ∷ (a ∷ (s ∷ (t ∷ [])))))) ((var 1 ⊕ var 0 ⊗ var 2) ⊗ var 3 ⊕ (var 4 ⊕ var 0 ⊗ var 5)) (var 1 ⊗ var 3 ⊕ var 4 ⊕ var 0 ⊗ (var 2 ⊗ var 3 ⊕ var 5)) tt)

bias_end : (q : ℤ) → pos 0 ≡ pos 0 +ℤ q *ℤ pos 0
bias_end q = (ring (q ∷ []) (num (pos 0)) (num (pos 0) ⊕ var 0 ⊗ num (pos 0)) tt)

-- in general: free is held plus q times the bias' unit, entry by entry
pub bias_more : (q : ℤ) (k u x : List ℤ) → length k ≡ length u → dot (add k (scale q u)) x ≡ dot k x +ℤ q *ℤ dot u x
bias_more q [] [] x l = bias_end q
bias_more q [] (b ∷ u) x l = absurd (omega arith)
bias_more q (a ∷ k) [] x l = absurd (omega arith)
bias_more q (a ∷ k) (b ∷ u) [] l = bias_end q
bias_more q (a ∷ k) (b ∷ u) (d ∷ x) l = bias_entry q a b d (dot (add k (scale q u)) x) (dot k x) (dot u x) (bias_more q k u x (omega arith))

free_is : (q k d : ℤ) → k ∷ (q ∷ (d ∷ [])) ≡ add (k ∷ (pos 0 ∷ (d ∷ []))) (scale q bias_unit)
free_is q k d = three _ _ _ _ _ _ (plus_none k) (ring (q ∷ []) (var 0) (num (pos 0) ⊕ var 0 ⊗ num (pos 1)) tt) (plus_none d)
  where
    plus_none : (a : ℤ) → a ≡ a +ℤ q *ℤ pos 0
    plus_none a = (ring (a ∷ (q ∷ [])) (var 0) (var 0 ⊕ var 1 ⊗ num (pos 0)) tt)

pub near_self : (z : ℤ) → pos 0 ≤ℤ z → Near z z
near_self z h = record { below = omega (arith, ints); above = omega (arith, ints) }

-- of any size
pub shrunk : {n : ℕ} (c : Cert) (l : Lists n) (a : List (List ℤ)) → Shrinks c l a → (x : List ℤ) → form l.p.at (apply a x) ≤ℤ (c.rho *ℤ c.rho *ℤ form l.p.at x)
shrunk c l a h = shrinks l.p.at a c.rho h.nonneg

pub followed : {n : ℕ} (c : Cert) (l : Lists n) (g : List ℤ) (axis : ℕ) → BoundsOutput c l g axis → (x : List ℤ) → (dot g x *ℤ dot g x) ≤ℤ (entry c.g axis *ℤ entry c.g axis *ℤ form l.p.at x)
followed c l g axis h = output_below l.p.at (entry c.g axis) g h.nonneg

pub certified_three : (g : Gains) (c : Cert) (l : Lists 3) → AreNumbers c → IsSoundLoop c l (loop_three g) → Certified (observer_three g) l.p.at c.rho c.b c.r
unfolding loop_three
certified_three g c l n s = record {
  scale_positive = omega (arith, ints);
  rate_low = n.rho.low;
  input_low = n.b.low;
  rounding_low = n.r.low;
  nonneg = s.shape;
  surge = contracts l.p.at (vertex g 0 0) (vertex g 0 0) (vertex g 0 1) (vertex g 0 2) velocity_unit (output g 0 1) (output g 0 0) (c.rho *ℤ c.rho) refl (vertex_held g 0) (vertex_free g 0)
      (shrunk c l (vertex g 0 0) s.surge.saturated) (shrunk c l (vertex g 0 1) s.surge.clamped) (shrunk c l (vertex g 0 2) s.surge.free);
  sway = contracts l.p.at (vertex g 0 0) (vertex g 1 0) (vertex g 1 1) (vertex g 1 2) velocity_unit (output g 1 1) (output g 1 0) (c.rho *ℤ c.rho) refl (vertex_held g 1) (vertex_free g 1)
      (shrunk c l (vertex g 1 0) s.sway.saturated) (shrunk c l (vertex g 1 1) s.sway.clamped) (shrunk c l (vertex g 1 2) s.sway.free);
  bias_surge = λ x. ap (λ (z : List ℤ). dot z x) (free_is full_scale (entry g.kp 0) (entry g.kd 0)) ∙ bias_more full_scale (output g 0 1) bias_unit x refl;
  bias_sway = λ x. ap (λ (z : List ℤ). dot z x) (free_is full_scale (entry g.kp 1) (entry g.kd 1)) ∙ bias_more full_scale (output g 1 1) bias_unit x refl;
  input_enough = s.input;
  rounding_enough = s.rounding;
  thrust_low = (near_self (pos 0) (omega (arith, ints)), (near_self (pos 0) (omega (arith, ints)), (near_self (pos 1) (omega (arith, ints)), tt)));
  rows = refl;
  corrections = refl;
}

pub demands_three : (g : Gains) (c : Cert) (l : Lists 3) → AreNumbers c → IsSoundLoop c l (loop_three g) → BoundsDemands (observer_three g) l.p.at (entry c.g 0) (entry c.g 1)
unfolding loop_three
demands_three g c l n s = record {
  low0 = (n.demands 0).low;
  low1 = (n.demands 1).low;
  held0 = followed c l (output g 0 1) 0 s.surge.clamped_output;
  free0 = followed c l (output g 0 0) 0 s.surge.output;
  held1 = followed c l (output g 1 1) 1 s.sway.clamped_output;
  free1 = followed c l (output g 1 0) 1 s.sway.output;
}
