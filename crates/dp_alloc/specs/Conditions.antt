-- The two conditions on a case, and the first of them that fails.
use Rattle.std.specs.Prelude.{ℕ, ◌+◌, ℤ, pos, ◌*ℤ◌, int_lt, List, [], ◌∷◌, map, if◌then◌else◌, Option, Some, None}
use Rattle.std.specs.Option.{option_or}
use Rattle.dp_fixed.specs.Scale.{full_scale}
use Rattle.dp_plant.specs.Cases.{is_lost}
use Rattle.dp_plant.specs.declared.limits.Box3.{Box3}
use Rattle.dp_plant.specs.declared.plant.Plant.{Plant}
use Rattle.dp_plant.specs.declared.thrusters.RawCase.{RawCase}
use Rattle.dp_plant.specs.declared.thrusters.Thruster.{Thruster}
use Rattle.dp_plant.specs.Vectors.{entry}
use Rattle.dp_alloc.specs.declared.fault.CaseFault.{CaseFault}
use Rattle.dp_alloc.specs.declared.fault.CaseFault.TheVariants.{CornerOver, OffDemand}
use Rattle.dp_alloc.specs.Balance.{error_of}
use Rattle.dp_alloc.specs.Corners.{greatest_thrust, least_thrust}

-- the least and the greatest force of a thruster while groups are lost; none if its own is lost
abbrev pub limits_of : ℕ → Thruster → ℤ × ℤ
limits_of lost t = if is_lost lost t.group then (pos 0, pos 0) else (t.min, t.max)

-- ---- the first condition: each corner of the box is within each thruster's limits
-- a corner asks thruster k for more than its greatest force, or else for less than its least
abbrev pub over : ℕ → List ℤ → Box3 → ℤ × ℤ → Option CaseFault
over k row box limits =
    if int_lt limits.1 (greatest_thrust row box)
    then Some (CornerOver k (greatest_thrust row box) limits.1)
    else (if int_lt (least_thrust row box) limits.0
    then Some (CornerOver k (least_thrust row box) limits.0)
    else None)

-- the first thruster, from number k on, that a corner asks too much of
abbrev pub first_over : ℕ → Box3 → List (ℤ × ℤ) → List (List ℤ) → Option CaseFault
first_over k box [] rows = None
first_over k box (limits ∷ rest) [] = None
first_over k box (limits ∷ rest) (row ∷ rows) =
    option_or (over k row box limits) (first_over (k + 1) box rest rows)

-- ---- the second: all thrusters together give the demand, to the plant's tolerance
-- they miss it on an axis, for a demand on a column's axis
unfoldable pub off_demand : List ℤ → List ℤ → List Thruster → List (List ℤ) → ℕ → ℕ
    → Option CaseFault
off_demand mass tol ts rows axis column =
    if int_lt (full_scale *ℤ entry tol axis) (error_of mass ts rows axis column)
    then Some (OffDemand axis column (error_of mass ts rows axis column))
    else None

-- the first column of an axis where they do
unfoldable pub off_axis : List ℤ → List ℤ → List Thruster → List (List ℤ) → ℕ → Option CaseFault
off_axis mass tol ts rows axis =
    option_or (option_or (off_demand mass tol ts rows axis 0) (off_demand mass tol ts rows axis 1))
    (off_demand mass tol ts rows axis 2)

-- the first axis where they do
unfoldable pub first_off : List ℤ → List ℤ → List Thruster → List (List ℤ) → Option CaseFault
first_off mass tol ts rows =
    option_or (option_or (off_axis mass tol ts rows 0) (off_axis mass tol ts rows 1))
    (off_axis mass tol ts rows 2)

-- ---- both
-- the first condition that a case of a plant fails
unfoldable pub case_fault : Plant → RawCase → Option CaseFault
case_fault p c =
    option_or (first_over 0 c.bounds (map (limits_of c.lost) p.thrusters.items) c.b.items)
    (first_off p.mass p.tol p.thrusters.items c.b.items)
