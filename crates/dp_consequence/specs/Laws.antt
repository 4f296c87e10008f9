-- What holds of every plant.
use Rattle.std.specs.Prelude.{◌↔◌, ℕ, List, ℤ, Contains, IsTrue}
use Rattle.dp_plant.specs.declared.limits.Box3.{Box3}
use Rattle.dp_plant.specs.declared.plant.Plant.{Plant}
use Rattle.dp_plant.specs.{IsInBox, is_lost}
use Rattle.dp_consequence.specs.Survival.{is_in_box, unsurvived_bits, unsurvived_groups}

-- a bit of the number is set exactly where the list has that group
abbrev pub BitsAreTheGroups : Type 0
BitsAreTheGroups =
    (p : Plant) (lost : ℕ) (mean : List ℤ) (group : ℕ)
    → IsTrue (is_lost (unsurvived_bits p lost mean) group)
    ↔ Contains (unsurvived_groups p lost mean) group

-- a demand passes the test of a box exactly where it is in it
abbrev pub BoxTestIsExact : Type 0
BoxTestIsExact = (box : Box3) (a : List ℤ) → IsTrue (is_in_box box a) ↔ IsInBox box a
