-- A sound certificate of five states, read as numbers.
use Rattle.std.proofs.Common.{◌≡◌, ℕ, List, [], ◌∷◌, refl, ap, ◌∙◌, arith, ℤ, pos, negsuc, neg_ℤ, ◌+ℤ◌, ◌-ℤ◌, ◌*ℤ◌}
use Rattle.std.proofs.lemmas.Int.{ints}
use Rattle.dp_form.proofs.Ring.{var, num, ◌⊕◌, ◌⊗◌, minus, ring}
use Rattle.dp_fixed.specs.Scale.{full_scale}
use Rattle.dp_form.specs.Vectors.{dot, add, scale, matrix_add, outer}
use Rattle.dp_plant.specs.declared.cert.Cert.{Cert}
use Rattle.dp_plant.specs.declared.cert.Lists.{Lists}
use Rattle.dp_plant.specs.declared.gains.Gains.{Gains}
use Rattle.dp_plant.specs.Vectors.{entry}
use Rattle.dp_cert.specs.InRange.{AreNumbers}
use Rattle.dp_cert.specs.Sound.{IsSoundLoop}
use Rattle.dp_cert.specs.WaveLoop.{wave_vertex, wave_correction, wave_output, loop_five}
use Rattle.dp_cert.proofs.Steps.{Observer, Certified, BoundsDemands}
use Rattle.dp_cert.proofs.Vertices.{bias_more, contracts, near_self, shrunk, followed}

abbrev pub wave_velocity_unit : List ℤ
wave_velocity_unit = pos 0 ∷ (pos 0 ∷ (pos 1 ∷ (pos 0 ∷ (pos 0 ∷ []))))

abbrev pub wave_bias_unit : List ℤ
wave_bias_unit = pos 0 ∷ (pos 1 ∷ (pos 0 ∷ (pos 0 ∷ (pos 0 ∷ []))))

abbrev pub observer_five : Gains → Observer
observer_five g = record {
  q = full_scale;
  m = wave_vertex g 0 0;
  correction = wave_correction g;
  thrust = wave_velocity_unit;
  bias = wave_bias_unit;
  held0 = wave_output g 0 1;
  free0 = wave_output g 0 0;
  held1 = wave_output g 1 1;
  free1 = wave_output g 1 0;
}

pub five : (a b c d e v w x y z : ℤ) → a ≡ v → b ≡ w → c ≡ x → d ≡ y → e ≡ z → a ∷ (b ∷ (c ∷ (d ∷ (e ∷ [])))) ≡ v ∷ (w ∷ (x ∷ (y ∷ (z ∷ []))))
five a b c d e v w x y z p q r s t = cc

five_rows : (a b c d e v w x y z : List ℤ) → a ≡ v → b ≡ w → c ≡ x → d ≡ y → e ≡ z → a ∷ (b ∷ (c ∷ (d ∷ (e ∷ [])))) ≡ v ∷ (w ∷ (x ∷ (y ∷ (z ∷ []))))
five_rows a b c d e v w x y z p q r s t = cc

kept : (a k : ℤ) → a ≡ a +ℤ pos 0 *ℤ (negsuc 0 *ℤ k)
kept a k = (ring (a ∷ (k ∷ [])) (var 0) (var 0 ⊕ num (pos 0) ⊗ (num (negsuc 0) ⊗ var 1)) tt)

same : (a : ℤ) → a ≡ a +ℤ pos 1 *ℤ (negsuc 0 *ℤ pos 0)
same a = (ring (a ∷ []) (var 0) (var 0 ⊕ num (pos 1) ⊗ (num (negsuc 0) ⊗ num (pos 0))) tt)

less : (a k : ℤ) → a -ℤ k ≡ a +ℤ pos 1 *ℤ (negsuc 0 *ℤ k)
less a k = (ring (a ∷ (k ∷ [])) (var 0 ⊕ minus (var 1)) (var 0 ⊕ num (pos 1) ⊗ (num (negsuc 0) ⊗ var 1)) tt)

none : (q : ℤ) → pos 0 ≡ q +ℤ pos 1 *ℤ (negsuc 0 *ℤ q)
none q = (ring (q ∷ []) (num (pos 0)) (var 0 ⊕ num (pos 1) ⊗ (num (negsuc 0) ⊗ var 0)) tt)

row_kept : (a b c d e k f l : ℤ) → a ∷ (b ∷ (c ∷ (d ∷ (e ∷ [])))) ≡ add (a ∷ (b ∷ (c ∷ (d ∷ (e ∷ []))))) (scale (pos 0) (scale (negsuc 0) (k ∷ (f ∷ (l ∷ (pos 0 ∷ (pos 0 ∷ [])))))))
row_kept a b c d e k f l = five _ _ _ _ _ _ _ _ _ _ (kept a k) (kept b f) (kept c l) (kept d (pos 0)) (kept e (pos 0))

vertex_held : (g : Gains) (axis : ℕ) → wave_vertex g axis 1 ≡ matrix_add (wave_vertex g 0 0) (outer wave_velocity_unit (scale (negsuc 0) (wave_output g axis 1)))
vertex_held g axis = let k = entry g.kp axis in let l = entry g.kd axis in
    five_rows _ _ _ _ _ _ _ _ _ _
    (row_kept (full_scale -ℤ g.k2) (pos 0) full_scale (pos 0) (neg_ℤ g.k2) k (pos 0) l)
    (row_kept (neg_ℤ g.k3) (full_scale -ℤ g.leak) (pos 0) (pos 0) (neg_ℤ g.k3) k (pos 0) l)
    (five _ _ _ _ _ _ _ _ _ _ (less (neg_ℤ g.k4) k) (same full_scale) (less (full_scale -ℤ g.damp) l) (same (pos 0)) (same (neg_ℤ g.k4)))
    (row_kept (neg_ℤ (entry g.k1 0)) (pos 0) (pos 0) (entry g.wave 0) (entry g.wave 1 -ℤ entry g.k1 0) k (pos 0) l)
    (row_kept (neg_ℤ (entry g.k1 1)) (pos 0) (pos 0) (entry g.wave 2) (entry g.wave 3 -ℤ entry g.k1 1) k (pos 0) l)

vertex_free : (g : Gains) (axis : ℕ) → wave_vertex g axis 2 ≡ matrix_add (wave_vertex g 0 0) (outer wave_velocity_unit (scale (negsuc 0) (wave_output g axis 0)))
vertex_free g axis = let k = entry g.kp axis in let l = entry g.kd axis in
    five_rows _ _ _ _ _ _ _ _ _ _
    (row_kept (full_scale -ℤ g.k2) (pos 0) full_scale (pos 0) (neg_ℤ g.k2) k full_scale l)
    (row_kept (neg_ℤ g.k3) (full_scale -ℤ g.leak) (pos 0) (pos 0) (neg_ℤ g.k3) k full_scale l)
    (five _ _ _ _ _ _ _ _ _ _ (less (neg_ℤ g.k4) k) (none full_scale) (less (full_scale -ℤ g.damp) l) (same (pos 0)) (same (neg_ℤ g.k4)))
    (row_kept (neg_ℤ (entry g.k1 0)) (pos 0) (pos 0) (entry g.wave 0) (entry g.wave 1 -ℤ entry g.k1 0) k full_scale l)
    (row_kept (neg_ℤ (entry g.k1 1)) (pos 0) (pos 0) (entry g.wave 2) (entry g.wave 3 -ℤ entry g.k1 1) k full_scale l)

free_is : (q k d : ℤ) → k ∷ (q ∷ (d ∷ (pos 0 ∷ (pos 0 ∷ [])))) ≡ add (k ∷ (pos 0 ∷ (d ∷ (pos 0 ∷ (pos 0 ∷ []))))) (scale q wave_bias_unit)
free_is q k d = five _ _ _ _ _ _ _ _ _ _ (plus_none k) (ring (q ∷ []) (var 0) (num (pos 0) ⊕ var 0 ⊗ num (pos 1)) tt) (plus_none d) (plus_none (pos 0)) (plus_none (pos 0))
  where
    plus_none : (a : ℤ) → a ≡ a +ℤ q *ℤ pos 0
    plus_none a = (ring (a ∷ (q ∷ [])) (var 0) (var 0 ⊕ var 1 ⊗ num (pos 0)) tt)

pub certified_five : (g : Gains) (c : Cert) (l : Lists 5) → AreNumbers c → IsSoundLoop c l (loop_five g) → Certified (observer_five g) l.p.at c.rho c.b c.r
unfolding loop_five
certified_five g c l n s =
    let none_near = near_self (pos 0) (omega (arith, ints)) in
    record {
      scale_positive = omega (arith, ints);
      rate_low = n.rho.low;
      input_low = n.b.low;
      rounding_low = n.r.low;
      nonneg = s.shape;
      surge = contracts l.p.at (wave_vertex g 0 0) (wave_vertex g 0 0) (wave_vertex g 0 1) (wave_vertex g 0 2) wave_velocity_unit (wave_output g 0 1) (wave_output g 0 0) (c.rho *ℤ c.rho) refl (vertex_held g 0) (vertex_free g 0)
          (shrunk c l (wave_vertex g 0 0) s.surge.saturated) (shrunk c l (wave_vertex g 0 1) s.surge.clamped) (shrunk c l (wave_vertex g 0 2) s.surge.free);
      sway = contracts l.p.at (wave_vertex g 0 0) (wave_vertex g 1 0) (wave_vertex g 1 1) (wave_vertex g 1 2) wave_velocity_unit (wave_output g 1 1) (wave_output g 1 0) (c.rho *ℤ c.rho) refl (vertex_held g 1) (vertex_free g 1)
          (shrunk c l (wave_vertex g 1 0) s.sway.saturated) (shrunk c l (wave_vertex g 1 1) s.sway.clamped) (shrunk c l (wave_vertex g 1 2) s.sway.free);
      bias_surge = λ x. ap (λ (z : List ℤ). dot z x) (free_is full_scale (entry g.kp 0) (entry g.kd 0)) ∙ bias_more full_scale (wave_output g 0 1) wave_bias_unit x refl;
      bias_sway = λ x. ap (λ (z : List ℤ). dot z x) (free_is full_scale (entry g.kp 1) (entry g.kd 1)) ∙ bias_more full_scale (wave_output g 1 1) wave_bias_unit x refl;
      input_enough = s.input;
      rounding_enough = s.rounding;
      thrust_low = (none_near, (none_near, (near_self (pos 1) (omega (arith, ints)), (none_near, (none_near, tt)))));
      rows = refl;
      corrections = refl;
    }

pub demands_five : (g : Gains) (c : Cert) (l : Lists 5) → AreNumbers c → IsSoundLoop c l (loop_five g) → BoundsDemands (observer_five g) l.p.at (entry c.g 0) (entry c.g 1)
unfolding loop_five
demands_five g c l n s = record {
  low0 = (n.demands 0).low;
  low1 = (n.demands 1).low;
  held0 = followed c l (wave_output g 0 1) 0 s.surge.clamped_output;
  free0 = followed c l (wave_output g 0 0) 0 s.surge.output;
  held1 = followed c l (wave_output g 1 1) 1 s.sway.clamped_output;
  free1 = followed c l (wave_output g 1 0) 1 s.sway.output;
}
