-- A cycle without a wave filter is the one without waves.
use Rattle.std.proofs.Common.{◌≡◌, refl, sym, ap, ◌∙◌, subst, arith, List, Option, Some, None, ℤ, pos, ◌+ℤ◌, ◌-ℤ◌, ◌*ℤ◌}
use Rattle.std.proofs.lemmas.Int.{ints}
use Rattle.dp_fixed.specs.Scale.{full_scale}
use Rattle.dp_fixed.specs.Division.{floor_of}
use Rattle.dp_plant.specs.declared.place.Place.{Place}
use Rattle.dp_plant.specs.declared.gains.Gains.{Gains}
use Rattle.dp_plant.specs.declared.plane.Component.{Component}
use Rattle.dp_plant.specs.declared.plane.PlaneState.{PlaneState}
use Rattle.dp_plant.specs.Observer.{component_next, north_of, east_of, plane_of, plane_next, wave_next}
use Rattle.dp_plant.specs.Vectors.{along_north, along_east, entry}
use Rattle.dp_observer.specs.Steady.{steady_component_next, steady_next, HasNoWaveFilter, HasNoWaves, IsSteady}

zero_sum : (p q off : ℤ) → (((pos 0 *ℤ p) +ℤ (pos 0 *ℤ q)) +ℤ (pos 0 *ℤ off)) ≡ pos 0
zero_sum p q off = omega (arith, ints)

-- a wave state whose gains are zero is zero
still : (by_p by_q by_place : ℤ) (x : Component) (off : ℤ) → by_p ≡ pos 0 → by_q ≡ pos 0 → by_place ≡ pos 0 → wave_next by_p by_q by_place x off ≡ pos 0
still by_p by_q by_place x off p q k =
    ap (λ (z : ℤ). wave_next z by_q by_place x off) p ∙ ap (λ (z : ℤ). wave_next (pos 0) z by_place x off) q
    ∙ ap (λ (z : ℤ). wave_next (pos 0) (pos 0) z x off) k ∙ ap (λ (z : ℤ). floor_of z full_scale) (zero_sum x.wave_p x.wave_q off)

no_offset : (y eta q : ℤ) → q ≡ pos 0 → ((y -ℤ eta) -ℤ q) ≡ (y -ℤ eta)
no_offset y eta q zero = omega (arith, ints, zero)

-- a component by how far the measured place is off, and its wave states
abbrev moved : Gains → Component → ℤ → ℤ → ℤ → ℤ → Component
moved g x push off wave_p wave_q = record {
  eta = floor_of ((full_scale *ℤ (x.eta +ℤ x.vel)) +ℤ (g.k2 *ℤ off)) full_scale;
  beta = floor_of (((full_scale *ℤ x.beta) -ℤ (g.leak *ℤ x.beta)) +ℤ (g.k3 *ℤ off)) full_scale;
  vel = floor_of (((((full_scale *ℤ x.vel) -ℤ (g.damp *ℤ x.vel)) +ℤ (full_scale *ℤ x.beta)) +ℤ push) +ℤ (g.k4 *ℤ off)) full_scale;
  wave_p = wave_p;
  wave_q = wave_q;
}

steady_component : (g : Gains) (x : Component) (y push : ℤ) → HasNoWaveFilter g → x.wave_q ≡ pos 0 → component_next g x y push ≡ steady_component_next g x y push
steady_component g x y push none zero =
    let off = (y -ℤ x.eta) -ℤ x.wave_q in
    ap (λ (w : ℤ). moved g x push off w (wave_next (entry g.wave 2) (entry g.wave 3) (entry g.k1 1) x off)) (still (entry g.wave 0) (entry g.wave 1) (entry g.k1 0) x off none.wave_pp none.wave_pq none.k1_p)
    ∙ ap (λ (w : ℤ). moved g x push off (pos 0) w) (still (entry g.wave 2) (entry g.wave 3) (entry g.k1 1) x off none.wave_qp none.wave_qq none.k1_q)
    ∙ ap (λ (o : ℤ). moved g x push o (pos 0) (pos 0)) (no_offset y x.eta x.wave_q zero)

steady_plane : (g : Gains) (x : PlaneState) (y : Place) (push : List ℤ) (pair : ℤ × ℤ) → HasNoWaveFilter g → HasNoWaves x
    → plane_next g x (Some y) push pair ≡ steady_next g x (Some y) push pair
steady_plane g x y push pair none waves =
    let north = along_north pair push in let east = along_east pair push in
    ap (λ (c : Component). plane_of c (component_next g (east_of x) y.east east)) (steady_component g (north_of x) y.north north none (ap (λ (p : Place). p.north) waves.wave_q))
    ∙ ap (λ (c : Component). plane_of (steady_component_next g (north_of x) y.north north) c) (steady_component g (east_of x) y.east east none (ap (λ (p : Place). p.east) waves.wave_q))

pub is_steady : (g : Gains) (x : PlaneState) (y : Option Place) (push : List ℤ) (pair : ℤ × ℤ) → HasNoWaveFilter g → HasNoWaves x → IsSteady g x y push pair
is_steady g x None push pair none waves = record { next = refl; no_waves = waves }
is_steady g x (Some y) push pair none waves =
    let e = steady_plane g x y push pair none waves in
    record { next = e; no_waves = subst (λ (z : PlaneState). HasNoWaves z) (sym e) (record { wave_p = refl; wave_q = refl }) }
