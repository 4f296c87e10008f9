-- What an offer brings.
use Rattle.std.specs.Prelude.{ℕ, List, Option, Some, None, Result, Ok, if◌then◌else◌}
use Rattle.dp_plant.specs.declared.plant.Plant.{Plant}
use Rattle.dp_machine.specs.declared.state.State.{State}
use Rattle.dp_codec.specs.Spelling.{state_read}
use Rattle.dp_exchange.specs.ComputerState.{is_live}
use Rattle.dp_exchange.specs.Offers.{told_state}
use Rattle.dp_core.specs.declared.event.Event.{Event}
use Rattle.dp_core.specs.declared.event.Event.TheVariants.{Tell, Lie}
use Rattle.dp_core.specs.Moment.{Moment}
use Rattle.dp_core.specs.Mode.{mode, software}

-- what is read of an offer: of a live computer's, whose state is s, that state where the other's
-- software knows it, and of a false one the state that its bytes spell; nothing where the sender
-- isn't live
unfoldable pub offer_by : Plant → List Moment → Event → State → Option (Result State ℕ)
offer_by p h (Tell a c) s =
    if is_live (mode a h) then Some (told_state (software c h) (software a h) s) else None
offer_by p h (Lie a c bytes) s = Some (state_read p (software c h) bytes.items)
offer_by p h _ s = None

-- the state, if one is read
unfoldable pub state_in : Option (Result State ℕ) → Option State
state_in (Some (Ok s)) = Some s
state_in _ = None
