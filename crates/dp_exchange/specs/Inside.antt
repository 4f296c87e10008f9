-- What the fields of a computer mean, and what holds of them.
use Rattle.std.specs.Prelude.{◌≡◌, ℕ, suc, ◌+◌, ◌-◌, ◌^◌, ◌≤◌, List, [], ◌∷◌, map, length, Option, Some, None}
use Rattle.std.specs.List.{AllByRecursion}
use Rattle.std.specs.Result.{result_ok}
use Rattle.circular_buffer.specs.Buffer.{Buffer}
use Rattle.dp_plant.specs.declared.frames.Frame.{Frame}
use Rattle.dp_plant.specs.declared.plant.Plant.{Plant}
use Rattle.dp_plant.specs.declared.voting.Mode.TheVariants.{Live}
use Rattle.dp_plant.specs.FrameRanges.{IsFrameInRange}
use Rattle.dp_machine.specs.declared.state.State.{State}
use Rattle.dp_codec.specs.Spelling.{IsPlantState, IsSoftware, spelling_of, state_read}
use Rattle.dp_exchange.specs.declared.computer.Computer.TheInside.{Inside}
use Rattle.dp_exchange.specs.ComputerState.{ComputerState, control_in}

-- ---- the offers, which are kept as bytes
-- the state that bytes spell in spelling 2, if they spell one
abbrev pub offer_of : Plant → List ℕ → Option State
offer_of p bytes = result_ok (state_read p 2 bytes)

abbrev pub offers_of : Plant → List (List ℕ) → List (Option State)
offers_of p texts = map (offer_of p) texts

-- no bytes for no offer, or just the spelling of a state of the plant
abbrev pub Spells : Plant → List ℕ → Option State → Type 0
Spells p bytes None = bytes ≡ []
Spells p bytes (Some s) = IsPlantState p s × (bytes ≡ spelling_of p 2 s)

abbrev pub IsOfferText : Plant → List ℕ → Type 0
IsOfferText p bytes = Spells p bytes (offer_of p bytes)

-- ---- the frames that wait
-- the frames are those from the first number up to but not including the last
abbrev pub AreFrames : ℕ → List Frame → ℕ → Type 0
AreFrames n [] next = n ≡ next
AreFrames n (f ∷ fs) next = (f.cycle ≡ n) × AreFrames (suc n) fs next

-- the ring holds at most 16 frames of a plant with so many groups, the last ones before the next
pub record IsWaiting (groups : ℕ) (b : Buffer Frame) (next : ℕ) : Type 0 where
  pub capacity : b.capacity ≡ 16
  pub few : length b.items ≤ 16
  pub enough : length b.items ≤ next
  pub frames : AreFrames (next - length b.items) b.items next
  pub within : AllByRecursion (IsFrameInRange groups) b.items

-- ---- the computer
abbrev pub computer_state : Inside → ComputerState
computer_state c = record {
  plant = c.machine.plant;
  control = control_in c.mode c.machine.state;
  waits = c.waits.items;
  next = c.next;
  offers = offers_of c.machine.plant c.offers;
  last = c.last;
  steps = c.machine.steps;
  software = c.software;
}

pub record IsComputer (c : Inside) : Type 0 where
  pub waiting : IsWaiting c.machine.plant.groups c.waits c.next
  -- where it is live, it has done all frames but those that wait
  pub live : c.mode ≡ Live → c.machine.state.count + length c.waits.items ≡ c.next
  pub bounded : c.next ≤ 2 ^ 20
  pub offers : AllByRecursion (IsOfferText c.machine.plant) c.offers
  pub software : IsSoftware c.software
