-- How a component's states, the demands and the pushes move: as the loop of the certificate's parts.
use Rattle.std.proofs.Common.{◌≡◌, List, [], ◌∷◌, sym, ap, subst, ◌∙◌, arith, ℤ, pos, negsuc, neg_ℤ, ◌+ℤ◌, ◌-ℤ◌, ◌*ℤ◌}
use Rattle.std.proofs.lemmas.Int.{ints}
use Rattle.dp_form.proofs.Ring.{var, num, ◌⊕◌, ◌⊗◌, minus, ring}
use Rattle.dp_fixed.specs.Scale.{full_scale, full_scale_squared}
use Rattle.dp_fixed.specs.Division.{floor_of}
use Rattle.dp_fixed.specs.Order.{clamp_of}
use Rattle.dp_form.specs.Vectors.{dot}
use Rattle.dp_form.specs.Axes.{along, across}
use Rattle.dp_form.specs.Clamp.{Share}
use Rattle.dp_plant.specs.declared.cert.Parts.{Parts}
use Rattle.dp_plant.specs.declared.cert.Parts.TheVariants.{Three, Five}
use Rattle.dp_plant.specs.declared.gains.Gains.{Gains}
use Rattle.dp_plant.specs.declared.limits.Box3.{Box3}
use Rattle.dp_plant.specs.declared.limits.Setpoint.{Setpoint}
use Rattle.dp_plant.specs.declared.plane.Component.{Component}
use Rattle.dp_plant.specs.declared.plane.PlaneState.{PlaneState}
use Rattle.dp_plant.specs.Law.{asked_of, issued_of, asked_surge, asked_sway, plane_demand}
use Rattle.dp_plant.specs.Observer.{component_next, north_of, east_of}
use Rattle.dp_plant.specs.Step.{push_of}
use Rattle.dp_plant.specs.Vectors.{entry, along_north, along_east, along_surge, along_sway, offset}
use Rattle.dp_cert.specs.States.{gap, states_of}
use Rattle.dp_cert.proofs.CertifiedLoops.{observer_of}
use Rattle.dp_cert.proofs.Line.{AxisMove}
use Rattle.dp_cert.proofs.Near.{Near}
use Rattle.dp_cert.proofs.Floors.{rest}
use Rattle.dp_cert.proofs.Demands.{clamp_share, demand_split, demand_rest}
use Rattle.dp_cert.proofs.Steps.{next_of, PushMove}
use Rattle.dp_cert.proofs.WaveVertices.{five}

-- ---- a component's next states are those of the loop
place_row_is : (q k2 eta beta vel y t : ℤ) → q *ℤ (eta +ℤ vel) +ℤ k2 *ℤ (y -ℤ eta) ≡ ((q -ℤ k2) *ℤ eta +ℤ (pos 0 *ℤ beta +ℤ (q *ℤ vel +ℤ pos 0)) +ℤ y *ℤ k2) +ℤ t *ℤ pos 0
place_row_is q k2 eta beta vel y t = (ring (q ∷ (k2 ∷ (eta ∷ (beta ∷ (vel ∷ (y ∷ (t ∷ []))))))) (var 0 ⊗ (var 2 ⊕ var 4) ⊕ var 1 ⊗ (var 5 ⊕ minus (var 2))) ((var 0 ⊕ minus (var 1)) ⊗ var 2 ⊕ (num (pos 0) ⊗ var 3 ⊕ (var 0 ⊗ var 4 ⊕ num (pos 0))) ⊕ var 5 ⊗ var 1 ⊕ var 6 ⊗ num (pos 0)) tt)

bias_row_is : (q k3 leak eta beta vel y t : ℤ) → (q *ℤ beta -ℤ leak *ℤ beta) +ℤ k3 *ℤ (y -ℤ eta) ≡ (neg_ℤ k3 *ℤ eta +ℤ ((q -ℤ leak) *ℤ beta +ℤ (pos 0 *ℤ vel +ℤ pos 0)) +ℤ y *ℤ k3) +ℤ t *ℤ pos 0
bias_row_is q k3 leak eta beta vel y t = (ring (q ∷ (k3 ∷ (leak ∷ (eta ∷ (beta ∷ (vel ∷ (y ∷ (t ∷ [])))))))) (var 0 ⊗ var 4 ⊕ minus (var 2 ⊗ var 4) ⊕ var 1 ⊗ (var 6 ⊕ minus (var 3))) (minus (var 1) ⊗ var 3 ⊕ ((var 0 ⊕ minus (var 2)) ⊗ var 4 ⊕ (num (pos 0) ⊗ var 5 ⊕ num (pos 0))) ⊕ var 6 ⊗ var 1 ⊕ var 7 ⊗ num (pos 0)) tt)

velocity_row_is : (q k4 damp eta beta vel y t : ℤ) → (((q *ℤ vel -ℤ damp *ℤ vel) +ℤ q *ℤ beta) +ℤ t) +ℤ k4 *ℤ (y -ℤ eta) ≡ (neg_ℤ k4 *ℤ eta +ℤ (q *ℤ beta +ℤ ((q -ℤ damp) *ℤ vel +ℤ pos 0)) +ℤ y *ℤ k4) +ℤ t *ℤ pos 1
velocity_row_is q k4 damp eta beta vel y t = (ring (q ∷ (k4 ∷ (damp ∷ (eta ∷ (beta ∷ (vel ∷ (y ∷ (t ∷ [])))))))) (var 0 ⊗ var 5 ⊕ minus (var 2 ⊗ var 5) ⊕ var 0 ⊗ var 4 ⊕ var 7 ⊕ var 1 ⊗ (var 6 ⊕ minus (var 3))) (minus (var 1) ⊗ var 3 ⊕ (var 0 ⊗ var 4 ⊕ ((var 0 ⊕ minus (var 2)) ⊗ var 5 ⊕ num (pos 0))) ⊕ var 6 ⊗ var 1 ⊕ var 7 ⊗ num (pos 1)) tt)

three : (a b c x y z : ℤ) → a ≡ x → b ≡ y → c ≡ z → a ∷ (b ∷ (c ∷ [])) ≡ x ∷ (y ∷ (z ∷ []))
three a b c x y z p q r = cc

wave_place_row_is : (q k2 eta beta vel wp wq y t : ℤ) → q *ℤ (eta +ℤ vel) +ℤ k2 *ℤ ((y -ℤ eta) -ℤ wq) ≡ ((q -ℤ k2) *ℤ eta +ℤ (pos 0 *ℤ beta +ℤ (q *ℤ vel +ℤ (pos 0 *ℤ wp +ℤ (neg_ℤ k2 *ℤ wq +ℤ pos 0)))) +ℤ y *ℤ k2) +ℤ t *ℤ pos 0
wave_place_row_is q k2 eta beta vel wp wq y t = (ring (q ∷ (k2 ∷ (eta ∷ (beta ∷ (vel ∷ (wp ∷ (wq ∷ (y ∷ (t ∷ []))))))))) (var 0 ⊗ (var 2 ⊕ var 4) ⊕ var 1 ⊗ (var 7 ⊕ minus (var 2) ⊕ minus (var 6))) ((var 0 ⊕ minus (var 1)) ⊗ var 2 ⊕ (num (pos 0) ⊗ var 3 ⊕ (var 0 ⊗ var 4 ⊕ (num (pos 0) ⊗ var 5 ⊕ (minus (var 1) ⊗ var 6 ⊕ num (pos 0))))) ⊕ var 7 ⊗ var 1 ⊕ var 8 ⊗ num (pos 0)) tt)

wave_bias_row_is : (q k3 leak eta beta vel wp wq y t : ℤ) → (q *ℤ beta -ℤ leak *ℤ beta) +ℤ k3 *ℤ ((y -ℤ eta) -ℤ wq) ≡ (neg_ℤ k3 *ℤ eta +ℤ ((q -ℤ leak) *ℤ beta +ℤ (pos 0 *ℤ vel +ℤ (pos 0 *ℤ wp +ℤ (neg_ℤ k3 *ℤ wq +ℤ pos 0)))) +ℤ y *ℤ k3) +ℤ t *ℤ pos 0
wave_bias_row_is q k3 leak eta beta vel wp wq y t = (ring (q ∷ (k3 ∷ (leak ∷ (eta ∷ (beta ∷ (vel ∷ (wp ∷ (wq ∷ (y ∷ (t ∷ [])))))))))) (var 0 ⊗ var 4 ⊕ minus (var 2 ⊗ var 4) ⊕ var 1 ⊗ (var 8 ⊕ minus (var 3) ⊕ minus (var 7))) (minus (var 1) ⊗ var 3 ⊕ ((var 0 ⊕ minus (var 2)) ⊗ var 4 ⊕ (num (pos 0) ⊗ var 5 ⊕ (num (pos 0) ⊗ var 6 ⊕ (minus (var 1) ⊗ var 7 ⊕ num (pos 0))))) ⊕ var 8 ⊗ var 1 ⊕ var 9 ⊗ num (pos 0)) tt)

wave_velocity_row_is : (q k4 damp eta beta vel wp wq y t : ℤ) → (((q *ℤ vel -ℤ damp *ℤ vel) +ℤ q *ℤ beta) +ℤ t) +ℤ k4 *ℤ ((y -ℤ eta) -ℤ wq) ≡ (neg_ℤ k4 *ℤ eta +ℤ (q *ℤ beta +ℤ ((q -ℤ damp) *ℤ vel +ℤ (pos 0 *ℤ wp +ℤ (neg_ℤ k4 *ℤ wq +ℤ pos 0)))) +ℤ y *ℤ k4) +ℤ t *ℤ pos 1
wave_velocity_row_is q k4 damp eta beta vel wp wq y t = (ring (q ∷ (k4 ∷ (damp ∷ (eta ∷ (beta ∷ (vel ∷ (wp ∷ (wq ∷ (y ∷ (t ∷ [])))))))))) (var 0 ⊗ var 5 ⊕ minus (var 2 ⊗ var 5) ⊕ var 0 ⊗ var 4 ⊕ var 9 ⊕ var 1 ⊗ (var 8 ⊕ minus (var 3) ⊕ minus (var 7))) (minus (var 1) ⊗ var 3 ⊕ (var 0 ⊗ var 4 ⊕ ((var 0 ⊕ minus (var 2)) ⊗ var 5 ⊕ (num (pos 0) ⊗ var 6 ⊕ (minus (var 1) ⊗ var 7 ⊕ num (pos 0))))) ⊕ var 8 ⊗ var 1 ⊕ var 9 ⊗ num (pos 1)) tt)

wave_row_is : (w0 w1 k eta beta vel wp wq y t : ℤ) → (w0 *ℤ wp +ℤ w1 *ℤ wq) +ℤ k *ℤ ((y -ℤ eta) -ℤ wq) ≡ (neg_ℤ k *ℤ eta +ℤ (pos 0 *ℤ beta +ℤ (pos 0 *ℤ vel +ℤ (w0 *ℤ wp +ℤ ((w1 -ℤ k) *ℤ wq +ℤ pos 0)))) +ℤ y *ℤ k) +ℤ t *ℤ pos 0
wave_row_is w0 w1 k eta beta vel wp wq y t = (ring (w0 ∷ (w1 ∷ (k ∷ (eta ∷ (beta ∷ (vel ∷ (wp ∷ (wq ∷ (y ∷ (t ∷ [])))))))))) (var 0 ⊗ var 6 ⊕ var 1 ⊗ var 7 ⊕ var 2 ⊗ (var 8 ⊕ minus (var 3) ⊕ minus (var 7))) (minus (var 2) ⊗ var 3 ⊕ (num (pos 0) ⊗ var 4 ⊕ (num (pos 0) ⊗ var 5 ⊕ (var 0 ⊗ var 6 ⊕ ((var 1 ⊕ minus (var 2)) ⊗ var 7 ⊕ num (pos 0))))) ⊕ var 8 ⊗ var 2 ⊕ var 9 ⊗ num (pos 0)) tt)

-- a component without waves, where there is no wave filter
abbrev pub IsComponentOf : Parts → Component → Type 0
IsComponentOf (Three l) x = x.wave_q ≡ pos 0
IsComponentOf (Five l) x = Unit {0}

no_offset : (y eta wq : ℤ) → wq ≡ pos 0 → (y -ℤ eta) -ℤ wq ≡ y -ℤ eta
no_offset y eta wq e = omega (arith, ints, e)

pub component_is : (g : Gains) (parts : Parts) (x : Component) (y t : ℤ) → IsComponentOf parts x → states_of parts (component_next g x y t) ≡ next_of (observer_of g parts) (states_of parts x) y t
component_is g (Three l) x y t e =
    let off = no_offset y x.eta x.wave_q e in
    three _ _ _ _ _ _
    (ap (λ (z : ℤ). floor_of z full_scale) (ap (λ (z : ℤ). (full_scale *ℤ (x.eta +ℤ x.vel)) +ℤ (g.k2 *ℤ z)) off ∙ place_row_is full_scale g.k2 x.eta x.beta x.vel y t))
    (ap (λ (z : ℤ). floor_of z full_scale) (ap (λ (z : ℤ). ((full_scale *ℤ x.beta) -ℤ (g.leak *ℤ x.beta)) +ℤ (g.k3 *ℤ z)) off ∙ bias_row_is full_scale g.k3 g.leak x.eta x.beta x.vel y t))
    (ap (λ (z : ℤ). floor_of z full_scale) (ap (λ (z : ℤ). ((((full_scale *ℤ x.vel) -ℤ (g.damp *ℤ x.vel)) +ℤ (full_scale *ℤ x.beta)) +ℤ t) +ℤ (g.k4 *ℤ z)) off ∙ velocity_row_is full_scale g.k4 g.damp x.eta x.beta x.vel y t))
component_is g (Five l) x y t e = five _ _ _ _ _ _ _ _ _ _
    (ap (λ (z : ℤ). floor_of z full_scale) (wave_place_row_is full_scale g.k2 x.eta x.beta x.vel x.wave_p x.wave_q y t))
    (ap (λ (z : ℤ). floor_of z full_scale) (wave_bias_row_is full_scale g.k3 g.leak x.eta x.beta x.vel x.wave_p x.wave_q y t))
    (ap (λ (z : ℤ). floor_of z full_scale) (wave_velocity_row_is full_scale g.k4 g.damp x.eta x.beta x.vel x.wave_p x.wave_q y t))
    (ap (λ (z : ℤ). floor_of z full_scale) (wave_row_is (entry g.wave 0) (entry g.wave 1) (entry g.k1 0) x.eta x.beta x.vel x.wave_p x.wave_q y t))
    (ap (λ (z : ℤ). floor_of z full_scale) (wave_row_is (entry g.wave 2) (entry g.wave 3) (entry g.k1 1) x.eta x.beta x.vel x.wave_p x.wave_q y t))

-- ---- the demand of one axis
asked_gap : (q kp kd e e' v v' h h' w : ℤ) →
    (((neg_ℤ (kp *ℤ e) -ℤ kd *ℤ v) -ℤ q *ℤ h) -ℤ q *ℤ (q *ℤ w)) -ℤ (((neg_ℤ (kp *ℤ e') -ℤ kd *ℤ v') -ℤ q *ℤ h') -ℤ q *ℤ (q *ℤ w)) ≡ neg_ℤ ((kp *ℤ (e -ℤ e') +ℤ kd *ℤ (v -ℤ v')) +ℤ q *ℤ (h -ℤ h'))
asked_gap q kp kd e e' v v' h h' w = (ring (q ∷ (kp ∷ (kd ∷ (e ∷ (e' ∷ (v ∷ (v' ∷ (h ∷ (h' ∷ (w ∷ [])))))))))) (minus (var 1 ⊗ var 3) ⊕ minus (var 2 ⊗ var 5) ⊕ minus (var 0 ⊗ var 7) ⊕ minus (var 0 ⊗ (var 0 ⊗ var 9)) ⊕ minus (minus (var 1 ⊗ var 4) ⊕ minus (var 2 ⊗ var 6) ⊕ minus (var 0 ⊗ var 8) ⊕ minus (var 0 ⊗ (var 0 ⊗ var 9)))) (minus (var 1 ⊗ (var 3 ⊕ minus (var 4)) ⊕ var 2 ⊗ (var 5 ⊕ minus (var 6)) ⊕ var 0 ⊗ (var 7 ⊕ minus (var 8)))) tt)

-- what is asked, within the box
abbrev pub boxed : ℤ → ℤ → ℤ → ℤ
boxed z lo hi = clamp_of z (full_scale *ℤ (full_scale *ℤ lo)) (full_scale *ℤ (full_scale *ℤ hi))

pub axis_move : (kp kd limit lo hi w e e' v v' b b' o d : ℤ) → o ≡ kp *ℤ (e -ℤ e') +ℤ kd *ℤ (v -ℤ v') → d ≡ b -ℤ b' →
    AxisMove full_scale o d (boxed (asked_of kp kd limit e v b w) lo hi -ℤ boxed (asked_of kp kd limit e' v' b' w) lo hi)
unfolding asked_of
axis_move kp kd limit lo hi w e e' v v' b b' o d eo ed =
    let low = neg_ℤ (full_scale *ℤ limit) in let high = full_scale *ℤ limit in
    let h = clamp_of b low high in let h' = clamp_of b' low high in
    let z = asked_of kp kd limit e v b w in let z' = asked_of kp kd limit e' v' b' w in
    let moved = boxed z lo hi -ℤ boxed z' lo hi in
    let same : z -ℤ z' ≡ neg_ℤ (o +ℤ full_scale *ℤ (h -ℤ h')) = asked_gap full_scale kp kd e e' v v' h h' w ∙ ap (λ (x : ℤ). neg_ℤ (x +ℤ full_scale *ℤ (h -ℤ h'))) (sym eo) in
    record {
      held = h -ℤ h';
      bias = subst (λ (x : ℤ). Share x (h -ℤ h')) (sym ed) (clamp_share low high b b');
      box = subst (λ (x : ℤ). Share x moved) same (clamp_share (full_scale *ℤ (full_scale *ℤ lo)) (full_scale *ℤ (full_scale *ℤ hi)) z z');
    }

pub issued_split : (z z' lo hi : ℤ) → full_scale *ℤ full_scale *ℤ (issued_of z lo hi -ℤ issued_of z' lo hi) ≡ (boxed z lo hi -ℤ boxed z' lo hi) +ℤ rest full_scale_squared (boxed z lo hi) (boxed z' lo hi)
unfolding issued_of
issued_split z z' lo hi = demand_split full_scale_squared (boxed z lo hi) (boxed z' lo hi)

pub issued_rest : (z z' lo hi : ℤ) → Near (full_scale *ℤ full_scale) (rest full_scale_squared (boxed z lo hi) (boxed z' lo hi))
issued_rest z z' lo hi = demand_rest full_scale_squared (boxed z lo hi) (boxed z' lo hi) (omega (arith, ints))

-- ---- what the outputs are along surge and sway
surge_output : (c s kp kd dn de hn hn' he he' bn bn' be be' vn vn' ve ve' : ℤ) →
    kp *ℤ (c *ℤ (hn +ℤ negsuc 0 *ℤ hn') +ℤ s *ℤ (he +ℤ negsuc 0 *ℤ he')) +ℤ (pos 0 *ℤ (c *ℤ (bn +ℤ negsuc 0 *ℤ bn') +ℤ s *ℤ (be +ℤ negsuc 0 *ℤ be')) +ℤ (kd *ℤ (c *ℤ (vn +ℤ negsuc 0 *ℤ vn') +ℤ s *ℤ (ve +ℤ negsuc 0 *ℤ ve')) +ℤ pos 0))
    ≡ kp *ℤ ((c *ℤ (hn -ℤ dn) +ℤ s *ℤ (he -ℤ de)) -ℤ (c *ℤ (hn' -ℤ dn) +ℤ s *ℤ (he' -ℤ de))) +ℤ kd *ℤ ((c *ℤ vn +ℤ s *ℤ ve) -ℤ (c *ℤ vn' +ℤ s *ℤ ve'))
surge_output c s kp kd dn de hn hn' he he' bn bn' be be' vn vn' ve ve' = (ring (c ∷ (s ∷ (kp ∷ (kd ∷ (dn ∷ (de ∷ (hn ∷ (hn' ∷ (he ∷ (he' ∷ (bn ∷ (bn' ∷ (be ∷ (be' ∷ (vn ∷ (vn' ∷ (ve ∷ (ve' ∷ [])))))))))))))))))) (var 2 ⊗ (var 0 ⊗ (var 6 ⊕ num (negsuc 0) ⊗ var 7) ⊕ var 1 ⊗ (var 8 ⊕ num (negsuc 0) ⊗ var 9)) ⊕ (num (pos 0) ⊗ (var 0 ⊗ (var 10 ⊕ num (negsuc 0) ⊗ var 11) ⊕ var 1 ⊗ (var 12 ⊕ num (negsuc 0) ⊗ var 13)) ⊕ (var 3 ⊗ (var 0 ⊗ (var 14 ⊕ num (negsuc 0) ⊗ var 15) ⊕ var 1 ⊗ (var 16 ⊕ num (negsuc 0) ⊗ var 17)) ⊕ num (pos 0)))) (var 2 ⊗ (var 0 ⊗ (var 6 ⊕ minus (var 4)) ⊕ var 1 ⊗ (var 8 ⊕ minus (var 5)) ⊕ minus (var 0 ⊗ (var 7 ⊕ minus (var 4)) ⊕ var 1 ⊗ (var 9 ⊕ minus (var 5)))) ⊕ var 3 ⊗ (var 0 ⊗ var 14 ⊕ var 1 ⊗ var 16 ⊕ minus (var 0 ⊗ var 15 ⊕ var 1 ⊗ var 17))) tt)

sway_output : (c s kp kd dn de hn hn' he he' bn bn' be be' vn vn' ve ve' : ℤ) →
    kp *ℤ (c *ℤ (he +ℤ negsuc 0 *ℤ he') +ℤ (pos 0 -ℤ s) *ℤ (hn +ℤ negsuc 0 *ℤ hn')) +ℤ (pos 0 *ℤ (c *ℤ (be +ℤ negsuc 0 *ℤ be') +ℤ (pos 0 -ℤ s) *ℤ (bn +ℤ negsuc 0 *ℤ bn')) +ℤ (kd *ℤ (c *ℤ (ve +ℤ negsuc 0 *ℤ ve') +ℤ (pos 0 -ℤ s) *ℤ (vn +ℤ negsuc 0 *ℤ vn')) +ℤ pos 0))
    ≡ kp *ℤ ((c *ℤ (he -ℤ de) -ℤ s *ℤ (hn -ℤ dn)) -ℤ (c *ℤ (he' -ℤ de) -ℤ s *ℤ (hn' -ℤ dn))) +ℤ kd *ℤ ((c *ℤ ve -ℤ s *ℤ vn) -ℤ (c *ℤ ve' -ℤ s *ℤ vn'))
sway_output c s kp kd dn de hn hn' he he' bn bn' be be' vn vn' ve ve' = (ring (c ∷ (s ∷ (kp ∷ (kd ∷ (dn ∷ (de ∷ (hn ∷ (hn' ∷ (he ∷ (he' ∷ (bn ∷ (bn' ∷ (be ∷ (be' ∷ (vn ∷ (vn' ∷ (ve ∷ (ve' ∷ [])))))))))))))))))) (var 2 ⊗ (var 0 ⊗ (var 8 ⊕ num (negsuc 0) ⊗ var 9) ⊕ (num (pos 0) ⊕ minus (var 1)) ⊗ (var 6 ⊕ num (negsuc 0) ⊗ var 7)) ⊕ (num (pos 0) ⊗ (var 0 ⊗ (var 12 ⊕ num (negsuc 0) ⊗ var 13) ⊕ (num (pos 0) ⊕ minus (var 1)) ⊗ (var 10 ⊕ num (negsuc 0) ⊗ var 11)) ⊕ (var 3 ⊗ (var 0 ⊗ (var 16 ⊕ num (negsuc 0) ⊗ var 17) ⊕ (num (pos 0) ⊕ minus (var 1)) ⊗ (var 14 ⊕ num (negsuc 0) ⊗ var 15)) ⊕ num (pos 0)))) (var 2 ⊗ (var 0 ⊗ (var 8 ⊕ minus (var 5)) ⊕ minus (var 1 ⊗ (var 6 ⊕ minus (var 4))) ⊕ minus (var 0 ⊗ (var 9 ⊕ minus (var 5)) ⊕ minus (var 1 ⊗ (var 7 ⊕ minus (var 4))))) ⊕ var 3 ⊗ (var 0 ⊗ var 16 ⊕ minus (var 1 ⊗ var 14) ⊕ minus (var 0 ⊗ var 17 ⊕ minus (var 1 ⊗ var 15)))) tt)

surge_bias : (c s hn hn' he he' bn bn' be be' vn vn' ve ve' : ℤ) →
    pos 0 *ℤ (c *ℤ (hn +ℤ negsuc 0 *ℤ hn') +ℤ s *ℤ (he +ℤ negsuc 0 *ℤ he')) +ℤ (pos 1 *ℤ (c *ℤ (bn +ℤ negsuc 0 *ℤ bn') +ℤ s *ℤ (be +ℤ negsuc 0 *ℤ be')) +ℤ (pos 0 *ℤ (c *ℤ (vn +ℤ negsuc 0 *ℤ vn') +ℤ s *ℤ (ve +ℤ negsuc 0 *ℤ ve')) +ℤ pos 0))
    ≡ (c *ℤ bn +ℤ s *ℤ be) -ℤ (c *ℤ bn' +ℤ s *ℤ be')
surge_bias c s hn hn' he he' bn bn' be be' vn vn' ve ve' = (ring (c ∷ (s ∷ (hn ∷ (hn' ∷ (he ∷ (he' ∷ (bn ∷ (bn' ∷ (be ∷ (be' ∷ (vn ∷ (vn' ∷ (ve ∷ (ve' ∷ [])))))))))))))) (num (pos 0) ⊗ (var 0 ⊗ (var 2 ⊕ num (negsuc 0) ⊗ var 3) ⊕ var 1 ⊗ (var 4 ⊕ num (negsuc 0) ⊗ var 5)) ⊕ (num (pos 1) ⊗ (var 0 ⊗ (var 6 ⊕ num (negsuc 0) ⊗ var 7) ⊕ var 1 ⊗ (var 8 ⊕ num (negsuc 0) ⊗ var 9)) ⊕ (num (pos 0) ⊗ (var 0 ⊗ (var 10 ⊕ num (negsuc 0) ⊗ var 11) ⊕ var 1 ⊗ (var 12 ⊕ num (negsuc 0) ⊗ var 13)) ⊕ num (pos 0)))) (var 0 ⊗ var 6 ⊕ var 1 ⊗ var 8 ⊕ minus (var 0 ⊗ var 7 ⊕ var 1 ⊗ var 9)) tt)

sway_bias : (c s hn hn' he he' bn bn' be be' vn vn' ve ve' : ℤ) →
    pos 0 *ℤ (c *ℤ (he +ℤ negsuc 0 *ℤ he') +ℤ (pos 0 -ℤ s) *ℤ (hn +ℤ negsuc 0 *ℤ hn')) +ℤ (pos 1 *ℤ (c *ℤ (be +ℤ negsuc 0 *ℤ be') +ℤ (pos 0 -ℤ s) *ℤ (bn +ℤ negsuc 0 *ℤ bn')) +ℤ (pos 0 *ℤ (c *ℤ (ve +ℤ negsuc 0 *ℤ ve') +ℤ (pos 0 -ℤ s) *ℤ (vn +ℤ negsuc 0 *ℤ vn')) +ℤ pos 0))
    ≡ (c *ℤ be -ℤ s *ℤ bn) -ℤ (c *ℤ be' -ℤ s *ℤ bn')
sway_bias c s hn hn' he he' bn bn' be be' vn vn' ve ve' = (ring (c ∷ (s ∷ (hn ∷ (hn' ∷ (he ∷ (he' ∷ (bn ∷ (bn' ∷ (be ∷ (be' ∷ (vn ∷ (vn' ∷ (ve ∷ (ve' ∷ [])))))))))))))) (num (pos 0) ⊗ (var 0 ⊗ (var 4 ⊕ num (negsuc 0) ⊗ var 5) ⊕ (num (pos 0) ⊕ minus (var 1)) ⊗ (var 2 ⊕ num (negsuc 0) ⊗ var 3)) ⊕ (num (pos 1) ⊗ (var 0 ⊗ (var 8 ⊕ num (negsuc 0) ⊗ var 9) ⊕ (num (pos 0) ⊕ minus (var 1)) ⊗ (var 6 ⊕ num (negsuc 0) ⊗ var 7)) ⊕ (num (pos 0) ⊗ (var 0 ⊗ (var 12 ⊕ num (negsuc 0) ⊗ var 13) ⊕ (num (pos 0) ⊕ minus (var 1)) ⊗ (var 10 ⊕ num (negsuc 0) ⊗ var 11)) ⊕ num (pos 0)))) (var 0 ⊗ var 8 ⊕ minus (var 1 ⊗ var 6) ⊕ minus (var 0 ⊗ var 9 ⊕ minus (var 1 ⊗ var 7))) tt)

-- an output that leaves the waves out
without_waves : (k f d a b c p q : ℤ) → k *ℤ a +ℤ (f *ℤ b +ℤ (d *ℤ c +ℤ pos 0)) ≡ k *ℤ a +ℤ (f *ℤ b +ℤ (d *ℤ c +ℤ (pos 0 *ℤ p +ℤ (pos 0 *ℤ q +ℤ pos 0))))
without_waves k f d a b c p q = (ring (k ∷ (f ∷ (d ∷ (a ∷ (b ∷ (c ∷ (p ∷ (q ∷ [])))))))) (var 0 ⊗ var 3 ⊕ (var 1 ⊗ var 4 ⊕ (var 2 ⊗ var 5 ⊕ num (pos 0)))) (var 0 ⊗ var 3 ⊕ (var 1 ⊗ var 4 ⊕ (var 2 ⊗ var 5 ⊕ (num (pos 0) ⊗ var 6 ⊕ (num (pos 0) ⊗ var 7 ⊕ num (pos 0)))))) tt)

-- what lies between two states, in north and in east
abbrev pub north_gap : Parts → PlaneState → PlaneState → List ℤ
north_gap parts x x' = gap (states_of parts (north_of x)) (states_of parts (north_of x'))

abbrev pub east_gap : Parts → PlaneState → PlaneState → List ℤ
east_gap parts x x' = gap (states_of parts (east_of x)) (states_of parts (east_of x'))

abbrev pub surge_gap : Parts → ℤ × ℤ → PlaneState → PlaneState → List ℤ
surge_gap parts pair x x' = along pair.0 pair.1 (north_gap parts x x') (east_gap parts x x')

abbrev pub sway_gap : Parts → ℤ × ℤ → PlaneState → PlaneState → List ℤ
sway_gap parts pair x x' = across pair.0 pair.1 (north_gap parts x x') (east_gap parts x x')

-- what a demand follows along its axis: the spring's part and the damper's, and the bias
abbrev pub followed : ℤ → ℤ → ℤ → ℤ → ℤ → ℤ → ℤ
followed kp kd e e' v v' = kp *ℤ (e -ℤ e') +ℤ kd *ℤ (v -ℤ v')

surge_held : (g : Gains) (parts : Parts) (setpoint : Setpoint) (pair : ℤ × ℤ) (x x' : PlaneState) →
    dot (observer_of g parts).held0 (surge_gap parts pair x x') ≡ followed (entry g.kp 0) (entry g.kd 0) (along_surge pair (offset setpoint.at x.eta)) (along_surge pair (offset setpoint.at x'.eta)) (along_surge pair x.vel) (along_surge pair x'.vel)
surge_held g (Three l) setpoint pair x x' = surge_output pair.0 pair.1 (entry g.kp 0) (entry g.kd 0) setpoint.at.north setpoint.at.east x.eta.north x'.eta.north x.eta.east x'.eta.east x.beta.north x'.beta.north x.beta.east x'.beta.east x.vel.north x'.vel.north x.vel.east x'.vel.east
surge_held g (Five l) setpoint pair x x' =
    let z = surge_gap (Five l) pair x x' in
    sym (without_waves (entry g.kp 0) (pos 0) (entry g.kd 0) (entry z 0) (entry z 1) (entry z 2) (entry z 3) (entry z 4))
    ∙ surge_output pair.0 pair.1 (entry g.kp 0) (entry g.kd 0) setpoint.at.north setpoint.at.east x.eta.north x'.eta.north x.eta.east x'.eta.east x.beta.north x'.beta.north x.beta.east x'.beta.east x.vel.north x'.vel.north x.vel.east x'.vel.east

sway_held : (g : Gains) (parts : Parts) (setpoint : Setpoint) (pair : ℤ × ℤ) (x x' : PlaneState) →
    dot (observer_of g parts).held1 (sway_gap parts pair x x') ≡ followed (entry g.kp 1) (entry g.kd 1) (along_sway pair (offset setpoint.at x.eta)) (along_sway pair (offset setpoint.at x'.eta)) (along_sway pair x.vel) (along_sway pair x'.vel)
sway_held g (Three l) setpoint pair x x' = sway_output pair.0 pair.1 (entry g.kp 1) (entry g.kd 1) setpoint.at.north setpoint.at.east x.eta.north x'.eta.north x.eta.east x'.eta.east x.beta.north x'.beta.north x.beta.east x'.beta.east x.vel.north x'.vel.north x.vel.east x'.vel.east
sway_held g (Five l) setpoint pair x x' =
    let z = sway_gap (Five l) pair x x' in
    sym (without_waves (entry g.kp 1) (pos 0) (entry g.kd 1) (entry z 0) (entry z 1) (entry z 2) (entry z 3) (entry z 4))
    ∙ sway_output pair.0 pair.1 (entry g.kp 1) (entry g.kd 1) setpoint.at.north setpoint.at.east x.eta.north x'.eta.north x.eta.east x'.eta.east x.beta.north x'.beta.north x.beta.east x'.beta.east x.vel.north x'.vel.north x.vel.east x'.vel.east

surge_bias_is : (g : Gains) (parts : Parts) (pair : ℤ × ℤ) (x x' : PlaneState) → dot (observer_of g parts).bias (surge_gap parts pair x x') ≡ along_surge pair x.beta -ℤ along_surge pair x'.beta
surge_bias_is g (Three l) pair x x' = surge_bias pair.0 pair.1 x.eta.north x'.eta.north x.eta.east x'.eta.east x.beta.north x'.beta.north x.beta.east x'.beta.east x.vel.north x'.vel.north x.vel.east x'.vel.east
surge_bias_is g (Five l) pair x x' =
    let z = surge_gap (Five l) pair x x' in
    sym (without_waves (pos 0) (pos 1) (pos 0) (entry z 0) (entry z 1) (entry z 2) (entry z 3) (entry z 4))
    ∙ surge_bias pair.0 pair.1 x.eta.north x'.eta.north x.eta.east x'.eta.east x.beta.north x'.beta.north x.beta.east x'.beta.east x.vel.north x'.vel.north x.vel.east x'.vel.east

sway_bias_is : (g : Gains) (parts : Parts) (pair : ℤ × ℤ) (x x' : PlaneState) → dot (observer_of g parts).bias (sway_gap parts pair x x') ≡ along_sway pair x.beta -ℤ along_sway pair x'.beta
sway_bias_is g (Three l) pair x x' = sway_bias pair.0 pair.1 x.eta.north x'.eta.north x.eta.east x'.eta.east x.beta.north x'.beta.north x.beta.east x'.beta.east x.vel.north x'.vel.north x.vel.east x'.vel.east
sway_bias_is g (Five l) pair x x' =
    let z = sway_gap (Five l) pair x x' in
    sym (without_waves (pos 0) (pos 1) (pos 0) (entry z 0) (entry z 1) (entry z 2) (entry z 3) (entry z 4))
    ∙ sway_bias pair.0 pair.1 x.eta.north x'.eta.north x.eta.east x'.eta.east x.beta.north x'.beta.north x.beta.east x'.beta.east x.vel.north x'.vel.north x.vel.east x'.vel.east

abbrev pub boxed_surge : Gains → Box3 → Setpoint → ℤ × ℤ → List ℤ → PlaneState → ℤ
boxed_surge g box setpoint pair wind x = boxed (asked_surge g setpoint pair wind x) (entry box.lo 0) (entry box.hi 0)

abbrev pub boxed_sway : Gains → Box3 → Setpoint → ℤ × ℤ → List ℤ → PlaneState → ℤ
boxed_sway g box setpoint pair wind x = boxed (asked_sway g setpoint pair wind x) (entry box.lo 1) (entry box.hi 1)

pub surge_move : (g : Gains) (parts : Parts) (box : Box3) (setpoint : Setpoint) (pair : ℤ × ℤ) (wind : List ℤ) (x x' : PlaneState) →
    AxisMove full_scale (dot (observer_of g parts).held0 (surge_gap parts pair x x')) (dot (observer_of g parts).bias (surge_gap parts pair x x'))
    (boxed_surge g box setpoint pair wind x -ℤ boxed_surge g box setpoint pair wind x')
unfolding asked_surge
surge_move g parts box setpoint pair wind x x' =
    axis_move (entry g.kp 0) (entry g.kd 0) (entry g.bias 0) (entry box.lo 0) (entry box.hi 0) (entry wind 0) _ _ _ _ _ _ _ _
    (surge_held g parts setpoint pair x x') (surge_bias_is g parts pair x x')

pub sway_move : (g : Gains) (parts : Parts) (box : Box3) (setpoint : Setpoint) (pair : ℤ × ℤ) (wind : List ℤ) (x x' : PlaneState) →
    AxisMove full_scale (dot (observer_of g parts).held1 (sway_gap parts pair x x')) (dot (observer_of g parts).bias (sway_gap parts pair x x'))
    (boxed_sway g box setpoint pair wind x -ℤ boxed_sway g box setpoint pair wind x')
unfolding asked_sway
sway_move g parts box setpoint pair wind x x' =
    axis_move (entry g.kp 1) (entry g.kd 1) (entry g.bias 1) (entry box.lo 1) (entry box.hi 1) (entry wind 1) _ _ _ _ _ _ _ _
    (sway_held g parts setpoint pair x x') (sway_bias_is g parts pair x x')

-- ---- what pushes in north and in east
north_push : (qq c s a a' b b' w v m0 m1 l0 l1 : ℤ) → qq *ℤ (a -ℤ a') ≡ m0 +ℤ l0 → qq *ℤ (b -ℤ b') ≡ m1 +ℤ l1 →
    qq *ℤ ((c *ℤ (a +ℤ w) -ℤ s *ℤ (b +ℤ v)) -ℤ (c *ℤ (a' +ℤ w) -ℤ s *ℤ (b' +ℤ v))) ≡ (c *ℤ m0 -ℤ s *ℤ m1) +ℤ (c *ℤ l0 -ℤ s *ℤ l1)
north_push qq c s a a' b b' w v m0 m1 l0 l1 e f =
    (ring (qq ∷ (c ∷ (s ∷ (a ∷ (a' ∷ (b ∷ (b' ∷ (w ∷ (v ∷ []))))))))) (var 0 ⊗ (var 1 ⊗ (var 3 ⊕ var 7) ⊕ minus (var 2 ⊗ (var 5 ⊕ var 8)) ⊕ minus (var 1 ⊗ (var 4 ⊕ var 7) ⊕ minus (var 2 ⊗ (var 6 ⊕ var 8))))) (var 1 ⊗ (var 0 ⊗ (var 3 ⊕ minus (var 4))) ⊕ minus (var 2 ⊗ (var 0 ⊗ (var 5 ⊕ minus (var 6))))) tt)
    ∙ ap (λ (z : ℤ). c *ℤ z -ℤ s *ℤ (qq *ℤ (b -ℤ b'))) e ∙ ap (λ (z : ℤ). c *ℤ (m0 +ℤ l0) -ℤ s *ℤ z) f
    ∙ (ring (c ∷ (s ∷ (m0 ∷ (m1 ∷ (l0 ∷ (l1 ∷ [])))))) (var 0 ⊗ (var 2 ⊕ var 4) ⊕ minus (var 1 ⊗ (var 3 ⊕ var 5))) (var 0 ⊗ var 2 ⊕ minus (var 1 ⊗ var 3) ⊕ (var 0 ⊗ var 4 ⊕ minus (var 1 ⊗ var 5))) tt)

east_push : (qq c s a a' b b' w v m0 m1 l0 l1 : ℤ) → qq *ℤ (a -ℤ a') ≡ m0 +ℤ l0 → qq *ℤ (b -ℤ b') ≡ m1 +ℤ l1 →
    qq *ℤ ((s *ℤ (a +ℤ w) +ℤ c *ℤ (b +ℤ v)) -ℤ (s *ℤ (a' +ℤ w) +ℤ c *ℤ (b' +ℤ v))) ≡ (s *ℤ m0 +ℤ c *ℤ m1) +ℤ (s *ℤ l0 +ℤ c *ℤ l1)
east_push qq c s a a' b b' w v m0 m1 l0 l1 e f =
    (ring (qq ∷ (c ∷ (s ∷ (a ∷ (a' ∷ (b ∷ (b' ∷ (w ∷ (v ∷ []))))))))) (var 0 ⊗ (var 2 ⊗ (var 3 ⊕ var 7) ⊕ var 1 ⊗ (var 5 ⊕ var 8) ⊕ minus (var 2 ⊗ (var 4 ⊕ var 7) ⊕ var 1 ⊗ (var 6 ⊕ var 8)))) (var 2 ⊗ (var 0 ⊗ (var 3 ⊕ minus (var 4))) ⊕ var 1 ⊗ (var 0 ⊗ (var 5 ⊕ minus (var 6)))) tt)
    ∙ ap (λ (z : ℤ). s *ℤ z +ℤ c *ℤ (qq *ℤ (b -ℤ b'))) e ∙ ap (λ (z : ℤ). s *ℤ (m0 +ℤ l0) +ℤ c *ℤ z) f
    ∙ (ring (c ∷ (s ∷ (m0 ∷ (m1 ∷ (l0 ∷ (l1 ∷ [])))))) (var 1 ⊗ (var 2 ⊕ var 4) ⊕ var 0 ⊗ (var 3 ⊕ var 5)) (var 1 ⊗ var 2 ⊕ var 0 ⊗ var 3 ⊕ (var 1 ⊗ var 4 ⊕ var 0 ⊗ var 5)) tt)

abbrev pub push_at : Gains → Box3 → Setpoint → ℤ × ℤ → List ℤ → PlaneState → List ℤ
push_at g box setpoint pair wind x = push_of (plane_demand g box setpoint pair wind x) wind

pub plane_moves : (g : Gains) (parts : Parts) (box : Box3) (setpoint : Setpoint) (pair : ℤ × ℤ) (wind : List ℤ) (x x' : PlaneState) →
    PushMove (observer_of g parts) pair.0 pair.1 (north_gap parts x x') (east_gap parts x x')
    (along_north pair (push_at g box setpoint pair wind x)) (along_north pair (push_at g box setpoint pair wind x'))
    (along_east pair (push_at g box setpoint pair wind x)) (along_east pair (push_at g box setpoint pair wind x'))
plane_moves g parts box setpoint pair wind x x' =
    let z = asked_surge g setpoint pair wind x in let z' = asked_surge g setpoint pair wind x' in
    let y = asked_sway g setpoint pair wind x in let y' = asked_sway g setpoint pair wind x' in
    let lo = entry box.lo 0 in let hi = entry box.hi 0 in let low = entry box.lo 1 in let high = entry box.hi 1 in
    record {
      moved0 = boxed z lo hi -ℤ boxed z' lo hi;
      moved1 = boxed y low high -ℤ boxed y' low high;
      left0 = rest full_scale_squared (boxed z lo hi) (boxed z' lo hi);
      left1 = rest full_scale_squared (boxed y low high) (boxed y' low high);
      surge = surge_move g parts box setpoint pair wind x x';
      sway = sway_move g parts box setpoint pair wind x x';
      left_surge = issued_rest z z' lo hi;
      left_sway = issued_rest y y' low high;
      push_north = north_push (full_scale *ℤ full_scale) pair.0 pair.1 (issued_of z lo hi) (issued_of z' lo hi) (issued_of y low high) (issued_of y' low high) (entry wind 0) (entry wind 1) _ _ _ _ (issued_split z z' lo hi) (issued_split y y' low high);
      push_east = east_push (full_scale *ℤ full_scale) pair.0 pair.1 (issued_of z lo hi) (issued_of z' lo hi) (issued_of y low high) (issued_of y' low high) (entry wind 0) (entry wind 1) _ _ _ _ (issued_split z z' lo hi) (issued_split y y' low high);
    }
