-- What a world shows of its computers.
use Rattle.std.specs.Prelude.{◌≡◌, ℕ, ◌-◌, ◌^◌, min, List, [], if◌then◌else◌}
use Rattle.dp_plant.specs.declared.place.Place.{Place}
use Rattle.dp_plant.specs.declared.plant.Plant.{Plant}
use Rattle.dp_plant.specs.declared.voting.Mode.TheVariants.{Live}
use Rattle.dp_machine.specs.Machine.{MachineValue}
use Rattle.dp_machine.specs.Step.{rest_in}
use Rattle.dp_codec.specs.Spelling.{spelling_of}
use Rattle.dp_machine.specs.declared.state.State.{State}
use Rattle.dp_exchange.specs.ComputerState.{ComputerState, InControl, is_live}
use Rattle.dp_core.specs.Moment.{Moment}
use Rattle.dp_core.specs.Mode.{mode, software}
use Rattle.dp_core.specs.Trajectory.{steps as steps_of, trajectory}

-- the spelling, in the version of its software, of the state that a live computer c has come to,
-- with the vessel at rest at a place
unfoldable pub spelling_at : Plant → ℕ → List Moment → Place → List ℕ
spelling_at p c h at =
    if is_live (mode c h)
    then spelling_of p (software c h) (rest_in (trajectory p c h) at)
    else []

-- what is left of a computer: its machine
pub record IsLeftOf (x : ComputerState) (m : MachineValue) : Type 0 where
  pub plant : m.plant ≡ x.plant
  pub steps : m.steps ≡ x.steps
  pub state : (s : State) → x.control ≡ InControl s → m.state ≡ s

-- the machine of computer c: it was stepped once for each issue, up to 2^64 - 1, and has the state
-- that c has come to where c is live
pub record IsMachineOf (p : Plant) (c : ℕ) (h : List Moment) (m : MachineValue) : Type 0 where
  pub plant : m.plant ≡ p
  pub steps : m.steps ≡ min (steps_of c h) (2 ^ 64 - 1)
  pub state : mode c h ≡ Live → m.state ≡ trajectory p c h
