-- What a thruster must be able to give over a box of demands: each corner of the box is a demand.
use Rattle.std.specs.Prelude.{◌^◌, ℤ, pos, List, [], ◌∷◌, map}
use Rattle.std.specs.Int.{int_max, int_min}
use Rattle.dp_fixed.specs.Division.{floor_of}
use Rattle.dp_plant.specs.declared.limits.Box3.{Box3}
use Rattle.dp_plant.specs.Vectors.{entry}
use Rattle.dp_alloc.specs.Thrust.{shared}

abbrev pub demand_of : ℤ → ℤ → ℤ → List ℤ
demand_of surge sway yaw = surge ∷ sway ∷ yaw ∷ []

-- the eight corners of a box
abbrev pub corners : Box3 → List (List ℤ)
corners box =
    demand_of (entry box.lo 0) (entry box.lo 1) (entry box.lo 2)
    ∷ demand_of (entry box.lo 0) (entry box.lo 1) (entry box.hi 2)
    ∷ demand_of (entry box.lo 0) (entry box.hi 1) (entry box.lo 2)
    ∷ demand_of (entry box.lo 0) (entry box.hi 1) (entry box.hi 2)
    ∷ demand_of (entry box.hi 0) (entry box.lo 1) (entry box.lo 2)
    ∷ demand_of (entry box.hi 0) (entry box.lo 1) (entry box.hi 2)
    ∷ demand_of (entry box.hi 0) (entry box.hi 1) (entry box.lo 2)
    ∷ demand_of (entry box.hi 0) (entry box.hi 1) (entry box.hi 2)
    ∷ []

abbrev pub greatest : List ℤ → ℤ
greatest [] = pos 0
greatest (x ∷ []) = x
greatest (x ∷ (y ∷ ys)) = int_max x (greatest (y ∷ ys))

abbrev pub least : List ℤ → ℤ
least [] = pos 0
least (x ∷ []) = x
least (x ∷ (y ∷ ys)) = int_min x (least (y ∷ ys))

-- what the corners make of a row, each times 2^20
abbrev pub at_corners : List ℤ → Box3 → List ℤ
at_corners row box = map (λ corner. shared corner row) (corners box)

-- the floor of the greatest thrust that a corner asks for
unfoldable pub greatest_thrust : List ℤ → Box3 → ℤ
greatest_thrust row box = floor_of (greatest (at_corners row box)) (pos (2 ^ 20))

-- the floor of the least
unfoldable pub least_thrust : List ℤ → Box3 → ℤ
least_thrust row box = floor_of (least (at_corners row box)) (pos (2 ^ 20))
