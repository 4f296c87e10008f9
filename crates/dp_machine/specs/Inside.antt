-- What the fields of a machine mean, and what holds of them.
use Rattle.std.specs.Prelude.{◌≡◌}
use Rattle.dp_plant.specs.SoundPlant.{IsSoundPlant}
use Rattle.dp_alloc.specs.Cases.{cases_of}
use Rattle.dp_machine.specs.declared.machine.Machine.TheInside.{Inside}
use Rattle.dp_machine.specs.Accepted.{IsAcceptedPlant}
use Rattle.dp_machine.specs.Machine.{MachineValue}
use Rattle.dp_machine.specs.Parts.{AreDemands, AreEstimates, AreReferences, state_by}

abbrev pub value_of : Inside → MachineValue
value_of m = record {
  plant = m.plant;
  state = state_by m.estimates m.references m.demands.items;
  steps = m.steps;
}

pub record IsMachine (m : Inside) : Type 0 where
  pub sound : IsSoundPlant m.plant
  pub accepted : IsAcceptedPlant m.plant m.accepted
  pub cases : m.cases ≡ cases_of m.plant
  pub estimates : AreEstimates m.plant m.estimates
  pub references : AreReferences m.plant m.estimates.count m.references
  pub demands : AreDemands m.estimates.count m.demands
