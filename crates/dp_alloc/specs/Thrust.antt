-- What the thrusters give for a demand.
use Rattle.std.specs.Prelude.{◌^◌, List, map, Option, Some, None, ℤ, pos, ◌+ℤ◌, ◌*ℤ◌}
use Rattle.dp_fixed.specs.Division.{floor_of}
use Rattle.dp_plant.specs.declared.thrusters.RawCase.{RawCase}
use Rattle.dp_plant.specs.declared.thrusters.Thruster.{Thruster}
use Rattle.dp_plant.specs.Vectors.{entry}

-- a row's shares of surge, sway and yaw, together: the thrust, times 2^20
abbrev pub shared : List ℤ → List ℤ → ℤ
shared demand row =
    (entry row 0 *ℤ entry demand 0 +ℤ entry row 1 *ℤ entry demand 1)
    +ℤ entry row 2 *ℤ entry demand 2

-- the force of a thruster, by its row of shares over 2^20
abbrev pub thrust_of : List ℤ → List ℤ → ℤ
thrust_of demand row = floor_of (shared demand row) (pos (2 ^ 20))

-- the forces of all thrusters; without a case each is zero
abbrev pub forces_of : List Thruster → Option RawCase → List ℤ → List ℤ
forces_of thrusters None demand = map (λ t. pos 0) thrusters
forces_of thrusters (Some c) demand = map (thrust_of demand) c.b.items
