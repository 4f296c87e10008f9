-- A state a cycle later, by its parts.
use Rattle.std.proofs.Common.{◌≡◌, ap, ◌∙◌, ℕ, ◌*◌, ◌^◌, ℤ, pos, ◌+ℤ◌, ◌-ℤ◌, ◌*ℤ◌}
use Rattle.std.specs.Int.{int_rem_euclid}
use Rattle.dp_fixed.specs.Scale.{full_scale}
use Rattle.dp_fixed.specs.Division.{floor_of}
use Rattle.dp_fixed.specs.Turns.{wrap_of}
use Rattle.dp_plant.specs.declared.gains.Gains.{Gains}
use Rattle.dp_plant.specs.declared.gains.YawGains.{YawGains}
use Rattle.dp_plant.specs.declared.plane.Component.{Component}
use Rattle.dp_plant.specs.declared.yaw.YawState.{YawState}
use Rattle.dp_plant.specs.Observer.{component_next, wave_next}
use Rattle.dp_plant.specs.Vectors.{entry}
use Rattle.dp_plant.specs.Yaw.{turn, yaw_moved}

abbrev place_at : ℤ → ℤ → ℤ → ℤ → ℤ
place_at k2 eta vel off = floor_of ((full_scale *ℤ (eta +ℤ vel)) +ℤ (k2 *ℤ off)) full_scale

abbrev bias_at : ℤ → ℤ → ℤ → ℤ → ℤ
bias_at leak k3 beta off = floor_of (((full_scale *ℤ beta) -ℤ (leak *ℤ beta)) +ℤ (k3 *ℤ off)) full_scale

abbrev velocity_at : ℤ → ℤ → ℤ → ℤ → ℤ → ℤ → ℤ
velocity_at damp k4 beta vel push off =
    floor_of (((((full_scale *ℤ vel) -ℤ (damp *ℤ vel)) +ℤ (full_scale *ℤ beta)) +ℤ push) +ℤ (k4 *ℤ off)) full_scale

abbrev yaw_by : ℤ → ℤ → ℤ → YawState
yaw_by psi beta rate = record { psi = psi; beta = beta; rate = rate }

pub yaw_is : (g : YawGains) (x : YawState) (h : ℕ) (push off straight psi beta pushed rate : ℤ)
    → off ≡ wrap_of (pos (h * 10 ^ 7) -ℤ x.psi) turn
    → straight ≡ place_at g.k2 x.psi x.rate off
    → psi ≡ int_rem_euclid straight turn
    → beta ≡ bias_at g.leak g.k3 x.beta off
    → pushed ≡ full_scale *ℤ push
    → rate ≡ velocity_at g.damp g.k4 x.beta x.rate pushed off
    → yaw_by psi beta rate ≡ yaw_moved g x (wrap_of (pos (h * 10 ^ 7) -ℤ x.psi) turn) push
yaw_is g x h push off straight psi beta pushed rate is_off is_straight is_psi is_beta is_pushed is_rate =
    let e = is_psi ∙ ap (λ (z : ℤ). int_rem_euclid z turn) is_straight in
    let k = is_rate ∙ ap (λ (z : ℤ). velocity_at g.damp g.k4 x.beta x.rate z off) is_pushed in
    ap (λ (z : ℤ). yaw_by z beta rate) e
    ∙ ap (λ (z : ℤ). yaw_by (int_rem_euclid (place_at g.k2 x.psi x.rate off) turn) z rate) is_beta
    ∙ ap (λ (z : ℤ). yaw_by (int_rem_euclid (place_at g.k2 x.psi x.rate off) turn) (bias_at g.leak g.k3 x.beta off) z) k
    ∙ ap (λ (z : ℤ). yaw_moved g x z push) is_off

abbrev by_parts : ℤ → ℤ → ℤ → ℤ → ℤ → Component
by_parts eta beta vel wave_p wave_q = record { eta = eta; beta = beta; vel = vel; wave_p = wave_p; wave_q = wave_q }

pub component_is : (g : Gains) (x : Component) (y push off eta beta vel wave_p wave_q : ℤ)
    → off ≡ (y -ℤ x.eta) -ℤ x.wave_q
    → eta ≡ place_at g.k2 x.eta x.vel off
    → beta ≡ bias_at g.leak g.k3 x.beta off
    → vel ≡ velocity_at g.damp g.k4 x.beta x.vel push off
    → wave_p ≡ wave_next (entry g.wave 0) (entry g.wave 1) (entry g.k1 0) x off
    → wave_q ≡ wave_next (entry g.wave 2) (entry g.wave 3) (entry g.k1 1) x off
    → by_parts eta beta vel wave_p wave_q ≡ component_next g x y push
component_is g x y push off eta beta vel wave_p wave_q is_off is_eta is_beta is_vel is_p is_q =
    let next : ℤ → Component = λ (o : ℤ). by_parts (place_at g.k2 x.eta x.vel o) (bias_at g.leak g.k3 x.beta o) (velocity_at g.damp g.k4 x.beta x.vel push o)
    (wave_next (entry g.wave 0) (entry g.wave 1) (entry g.k1 0) x o) (wave_next (entry g.wave 2) (entry g.wave 3) (entry g.k1 1) x o) in
    ap (λ (z : ℤ). by_parts z beta vel wave_p wave_q) is_eta
    ∙ ap (λ (z : ℤ). by_parts (place_at g.k2 x.eta x.vel off) z vel wave_p wave_q) is_beta
    ∙ ap (λ (z : ℤ). by_parts (place_at g.k2 x.eta x.vel off) (bias_at g.leak g.k3 x.beta off) z wave_p wave_q) is_vel
    ∙ ap (λ (z : ℤ). by_parts (place_at g.k2 x.eta x.vel off) (bias_at g.leak g.k3 x.beta off) (velocity_at g.damp g.k4 x.beta x.vel push off) z wave_q) is_p
    ∙ ap (λ (z : ℤ). by_parts (place_at g.k2 x.eta x.vel off) (bias_at g.leak g.k3 x.beta off) (velocity_at g.damp g.k4 x.beta x.vel push off)
    (wave_next (entry g.wave 0) (entry g.wave 1) (entry g.k1 0) x off) z) is_q
    ∙ ap next is_off

pub part_is : (g : Gains) (x z : Component) (y b push driven : ℤ) → x ≡ z → y ≡ b → push ≡ driven → component_next g x y push ≡ component_next g z b driven
part_is g x z y b push driven is_state is_place is_push =
    ap (λ (k : Component). component_next g k y push) is_state ∙ ap (λ (k : ℤ). component_next g z k push) is_place
    ∙ ap (λ (k : ℤ). component_next g z b k) is_push
