-- One cycle of the plane's observer (Fossen's nonlinear passive observer, made discrete). What is
-- measured is the place and the motion q
-- that waves add to it; p is q's companion in the wave filter.
use Rattle.std.specs.Prelude.{List, Option, Some, None, ℤ, ◌+ℤ◌, ◌-ℤ◌, ◌*ℤ◌}
use Rattle.dp_fixed.specs.Scale.{full_scale}
use Rattle.dp_fixed.specs.Division.{floor_of}
use Rattle.dp_plant.specs.declared.place.Place.{Place}
use Rattle.dp_plant.specs.declared.gains.Gains.{Gains}
use Rattle.dp_plant.specs.declared.plane.Component.{Component}
use Rattle.dp_plant.specs.declared.plane.PlaneState.{PlaneState}
use Rattle.dp_plant.specs.Vectors.{along_north, along_east, entry, zero_place}

-- a wave state a cycle later: by its row of the filter's matrix, and how far the measured place is
-- off
abbrev pub wave_next : ℤ → ℤ → ℤ → Component → ℤ → ℤ
wave_next by_p by_q by_place x off =
    floor_of (((by_p *ℤ x.wave_p) +ℤ (by_q *ℤ x.wave_q)) +ℤ (by_place *ℤ off)) full_scale

-- one component a cycle later, by its measured place y and what pushes in its direction, times the
-- scale
abbrev pub component_next : Gains → Component → ℤ → ℤ → Component
component_next g x y push = let off = (y -ℤ x.eta) -ℤ x.wave_q in record {
  eta = floor_of ((full_scale *ℤ (x.eta +ℤ x.vel)) +ℤ (g.k2 *ℤ off)) full_scale;
  beta = floor_of (((full_scale *ℤ x.beta) -ℤ (g.leak *ℤ x.beta)) +ℤ (g.k3 *ℤ off)) full_scale;
  vel = floor_of
      (((((full_scale *ℤ x.vel) -ℤ (g.damp *ℤ x.vel)) +ℤ (full_scale *ℤ x.beta)) +ℤ push)
      +ℤ (g.k4 *ℤ off)) full_scale;
  wave_p = wave_next (entry g.wave 0) (entry g.wave 1) (entry g.k1 0) x off;
  wave_q = wave_next (entry g.wave 2) (entry g.wave 3) (entry g.k1 1) x off;
}

-- at rest at a place: no bias, no velocity and no waves
abbrev pub rest_at : Place → PlaneState
rest_at at =
    record {
      eta = at;
      beta = zero_place;
      vel = zero_place;
      wave_p = zero_place;
      wave_q = zero_place;
    }

abbrev pub north_of : PlaneState → Component
north_of x = record {
  eta = x.eta.north;
  beta = x.beta.north;
  vel = x.vel.north;
  wave_p = x.wave_p.north;
  wave_q = x.wave_q.north;
}

abbrev pub east_of : PlaneState → Component
east_of x = record {
  eta = x.eta.east;
  beta = x.beta.east;
  vel = x.vel.east;
  wave_p = x.wave_p.east;
  wave_q = x.wave_q.east;
}

abbrev pub plane_of : Component → Component → PlaneState
plane_of north east = record {
  eta = record { north = north.eta; east = east.eta };
  beta = record { north = north.beta; east = east.beta };
  vel = record { north = north.vel; east = east.vel };
  wave_p = record { north = north.wave_p; east = east.wave_p };
  wave_q = record { north = north.wave_q; east = east.wave_q };
}

-- a cycle later, by a measured place and what pushes in surge and sway; a cycle without a measured
-- place holds the state
abbrev pub plane_next : Gains → PlaneState → Option Place → List ℤ → ℤ × ℤ → PlaneState
plane_next g x None push pair = x
plane_next g x (Some y) push pair = plane_of
    (component_next g (north_of x) y.north (along_north pair push))
    (component_next g (east_of x) y.east (along_east pair push))
