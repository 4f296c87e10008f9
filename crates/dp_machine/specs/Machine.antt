-- What a machine is, and what its calls make of it.
use Rattle.std.specs.Prelude.{ℕ, ◌+◌, ◌-◌, ◌^◌, min}
use Rattle.dp_plant.specs.declared.place.Place.{Place}
use Rattle.dp_plant.specs.declared.plant.Plant.{Plant}
use Rattle.dp_machine.specs.declared.state.State.{State}
use Rattle.dp_machine.specs.Step.{first_state, rest_in}

pub record MachineValue : Type 0 where
  pub plant : Plant
  pub state : State
  -- how many frames it was stepped over since it was made, up to 2^64 - 1
  pub steps : ℕ

abbrev pub first_machine : Plant → MachineValue
first_machine p = record { plant = p; state = first_state p; steps = 0 }

-- one more, up to 2^64 - 1
abbrev pub one_more : ℕ → ℕ
one_more n = min (n + 1) (2 ^ 64 - 1)

abbrev pub with_state : MachineValue → State → MachineValue
with_state m s = record m { state = s }

-- its plane at rest at a place
abbrev pub with_rest : MachineValue → Place → MachineValue
with_rest m at = with_state m (rest_in m.state at)
