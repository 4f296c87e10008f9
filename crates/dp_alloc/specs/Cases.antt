-- The accepted cases of a plant.
use Rattle.std.specs.Prelude.{ℕ, ◌==◌, List, map, find, Option}
use Rattle.dp_plant.specs.declared.plant.Plant.{Plant}
use Rattle.dp_plant.specs.declared.thrusters.RawCase.{RawCase}
use Rattle.dp_plant.specs.declared.thrusters.Thruster.{Thruster}
use Rattle.dp_alloc.specs.declared.cases.Cases.TheInside.{Inside}

pub record CasesValue : Type 0 where
  pub thrusters : List Thruster
  pub cases : List RawCase

-- all cases of a plant, for its thrusters
abbrev pub cases_of : Plant → CasesValue
cases_of p = record { thrusters = p.thrusters.items; cases = p.cases.items }

-- the case in which just these groups are lost; of the cases of a plant it is the plant's own
abbrev pub case_in : CasesValue → ℕ → Option RawCase
case_in v lost = find (λ c. c.lost == lost) v.cases

-- what the fields mean
abbrev pub value_of : Inside → CasesValue
value_of x = record { thrusters = x.thrusters.items; cases = map (λ c. c.raw) x.list.items }
