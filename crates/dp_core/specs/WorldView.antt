-- A world's fields as what it keeps, and what holds of them.
use Rattle.std.specs.Prelude.{◌≡◌, ◌≤◌, ◌^◌, ℕ, length, Some, slice_get}
use Rattle.dp_plant.specs.declared.voting.Mode.TheVariants.{Off}
use Rattle.dp_core.specs.declared.world.World.TheInside.{Inside}
use Rattle.dp_exchange.specs.ComputerState.{ComputerState, mode_of}
use Rattle.dp_core.specs.WorldState.{WorldState}

abbrev pub world_of : Inside → WorldState
world_of w = record {
  plant = w.plant;
  computers = w.computers;
  voters = w.voters.items;
  cycles_begun = w.cycles_begun;
}

-- a computer that isn't off has the frames of all cycles
abbrev pub IsInStep : ℕ → ComputerState → Type 0
IsInStep cycles x = (mode_of x.control ≡ Off → ⊥) → x.next ≡ cycles

pub record IsWorld (w : Inside) : Type 0 where
  pub three : length w.computers ≡ 3
  pub voters : length w.voters.items ≡ length w.plant.thrusters.items
  pub in_step : (c : ℕ) (x : ComputerState) → slice_get w.computers c ≡ Some x
      → IsInStep w.cycles_begun x
  pub of_plant : (c : ℕ) (x : ComputerState) → slice_get w.computers c ≡ Some x
      → x.plant ≡ w.plant
  pub bounded : w.cycles_begun ≤ 2 ^ 20
