-- The case of a set of lost groups, and the box of the demands that can then be met.
use Rattle.std.specs.Prelude.{ℕ, ◌/◌, ◌%◌, ◌^◌, ◌==◌, Bool, List, find, Option, Some, None, ℤ, ◌≤ℤ◌}
use Rattle.dp_plant.specs.declared.limits.Box3.{Box3}
use Rattle.dp_plant.specs.declared.plant.Plant.{Plant}
use Rattle.dp_plant.specs.declared.thrusters.RawCase.{RawCase}
use Rattle.dp_plant.specs.Vectors.{entry, three_zeros}

-- a group is among those of a mask
abbrev pub is_lost : ℕ → ℕ → Bool
is_lost lost group = (lost / 2 ^ group) % 2 == 1

-- the plant's case in which just these groups are lost
abbrev pub case_of : Plant → ℕ → Option RawCase
case_of p lost = find (λ c. c.lost == lost) p.cases.items

-- a box that holds no demand but zero
abbrev pub zero_box : Box3
zero_box = record { lo = three_zeros; hi = three_zeros }

-- without a case nothing can be demanded
abbrev pub box_of : Option RawCase → Box3
box_of None = zero_box
box_of (Some c) = c.bounds

-- a number lies from one end of a range to the other
pub record IsInRange (lo hi a : ℤ) : Type 0 where
  pub low : lo ≤ℤ a
  pub high : a ≤ℤ hi

-- each demand is in its range of the box
pub record IsInBox (box : Box3) (a : List ℤ) : Type 0 where
  pub surge : IsInRange (entry box.lo 0) (entry box.hi 0) (entry a 0)
  pub sway : IsInRange (entry box.lo 1) (entry box.hi 1) (entry a 1)
  pub yaw : IsInRange (entry box.lo 2) (entry box.hi 2) (entry a 2)
