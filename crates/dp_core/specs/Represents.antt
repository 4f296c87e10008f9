-- A world represents a list of events where its parts are what the list's history says.
use Rattle.std.specs.Prelude.{◌≡◌, ℕ, zero, suc, ◌-◌, ◌^◌, min, List, drop, length, Option, Some, None, slice_get}
use Rattle.dp_plant.specs.declared.plant.Plant.{Plant}
use Rattle.dp_plant.specs.declared.voting.Mode.TheVariants.{Live, Aligning, Off}
use Rattle.dp_voter.specs.VoterState.{VoterState}
use Rattle.dp_core.specs.declared.event.Event.{Event}
use Rattle.dp_core.specs.Moment.{Moment}
use Rattle.dp_core.specs.History.{history}
use Rattle.dp_core.specs.WorldState.{WorldState}
use Rattle.dp_core.specs.HeldOffers.{held_offers}
use Rattle.dp_core.specs.Mode.{cycles_begun, frames, mode, oldest, software as software_of}
use Rattle.dp_core.specs.Trajectory.{frames_done, last_issue, steps, trajectory}
use Rattle.dp_core.specs.Voting.{given_ballot, high_of, last_fresh, low_of, taken_forces, unfresh_cycles}
use Rattle.dp_exchange.specs.ComputerState.{ComputerState, control_in}

-- computer c: its plant, its software, its mode with its state where it is live, the states that
-- were offered to it in this cycle, its last issue and how many frames it was stepped over; where it
-- is live the frames that came and that it hasn't done, where it is aligning those from the oldest on
pub record ComputerRepresents (p : Plant) (c : ℕ) (h : List Moment)
    (x : ComputerState) : Type 0 where
  pub plant : x.plant ≡ p
  pub control : x.control ≡ control_in (mode c h) (trajectory p c h)
  pub next : (mode c h ≡ Off → ⊥) → x.next ≡ cycles_begun h
  pub waits_live : mode c h ≡ Live → x.waits ≡ drop (frames_done p c h) (frames h)
  pub waits_aligning : mode c h ≡ Aligning → x.waits ≡ drop (oldest c h) (frames h)
  pub offers : x.offers ≡ held_offers p c h
  pub software : x.software ≡ software_of c h
  pub last : x.last ≡ last_issue c h
  -- counted up to 2^64 - 1
  pub steps : x.steps ≡ min (steps c h) (2 ^ 64 - 1)

-- the cycle that the last Wire began
unfoldable pub newest_cycle : ℕ → Option ℕ
newest_cycle zero = None
newest_cycle (suc n) = Some n

-- voter k: its limits, its cycle, the orders taken and the ballot given in it, the last fresh
-- force, and how many cycles in a row have
-- no fresh ballot, counted up to 6
pub record VoterRepresents (p : Plant) (k : ℕ) (h : List Moment) (v : VoterState) : Type 0 where
  pub low : v.low ≡ low_of p k
  pub high : v.high ≡ high_of p k
  pub cycle : v.cycle ≡ newest_cycle (cycles_begun h)
  pub orders : v.orders ≡ taken_forces k h
  pub ballot : v.ballot ≡ given_ballot k h
  pub last_fresh : v.last_fresh ≡ last_fresh k h
  pub run : v.run ≡ min 6 (unfresh_cycles k h)

-- each of the three computers, one voter for each thruster, and the number of cycles
pub record Represents (es : List Event) (w : WorldState) : Type 0 where
  pub computers : (c : ℕ) (x : ComputerState) → slice_get w.computers c ≡ Some x
      → ComputerRepresents w.plant c (history w.plant es) x
  pub three : length w.computers ≡ 3
  pub voters : (k : ℕ) (v : VoterState) → slice_get w.voters k ≡ Some v
      → VoterRepresents w.plant k (history w.plant es) v
  pub thrusters : length w.voters ≡ length w.plant.thrusters.items
  pub cycles : w.cycles_begun ≡ cycles_begun (history w.plant es)
