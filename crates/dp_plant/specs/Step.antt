-- One cycle of the plane: what is demanded of the state before it, and the state after it.
use Rattle.std.specs.Prelude.{List, [], ◌∷◌, Option, ℤ, ◌+ℤ◌}
use Rattle.dp_plant.specs.declared.place.Place.{Place}
use Rattle.dp_plant.specs.declared.gains.Gains.{Gains}
use Rattle.dp_plant.specs.declared.limits.Box3.{Box3}
use Rattle.dp_plant.specs.declared.limits.Setpoint.{Setpoint}
use Rattle.dp_plant.specs.declared.plane.PlaneState.{PlaneState}
use Rattle.dp_plant.specs.Vectors.{entry}
use Rattle.dp_plant.specs.Law.{plane_demand}
use Rattle.dp_plant.specs.Observer.{plane_next}

pub record PlaneStep : Type 0 where
  pub demand : List ℤ
  pub next : PlaneState

-- what pushes in surge and sway: the demand and the wind together
abbrev pub push_of : List ℤ → List ℤ → List ℤ
push_of demand wind = (entry demand 0 +ℤ entry wind 0) ∷ (entry demand 1 +ℤ entry wind 1) ∷ []

-- from the gains, the box, the setpoint, the sine pair, the wind, the state and the measured place,
-- if there is one
abbrev pub plane_step : Gains → Box3 → Setpoint → ℤ × ℤ → List ℤ → PlaneState → Option Place
    → PlaneStep
plane_step g box setpoint pair wind x y =
    let demand = plane_demand g box setpoint pair wind x in
    record { demand = demand; next = plane_next g x y (push_of demand wind) pair }
