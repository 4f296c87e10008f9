-- The events of a cycle, by the acts of a script. Events are listed newest first: each definition
-- says what comes after `es`.
use Rattle.std.specs.Prelude.{ℕ, ℤ, zero, suc, nat_lt, List, [], ◌∷◌, length, if◌then◌else◌}
use Rattle.dp_plant.specs.declared.frames.Frame.{Frame}
use Rattle.dp_plant.specs.declared.plant.Plant.{Plant}
use Rattle.dp_core.specs.declared.event.Event.{Event}
use Rattle.dp_core.specs.declared.event.Event.TheVariants as event
use Rattle.dp_core.specs.History.{history}
use Rattle.dp_core.specs.Mode.{mode}
use Rattle.dp_core.specs.Several.{order_events}
use Rattle.dp_core.specs.Shown.{spelling_at}
use Rattle.dp_exchange.specs.ComputerState.{is_live}
use Rattle.dp_plant.specs.declared.place.Place.{Place}
use Rattle.dp_script.specs.declared.act.Act.{Act}
use Rattle.dp_script.specs.declared.act.Act.TheVariants.{Run, Order, Orders, Tell, Skew, Say, Lie, Junk, Stop, Restart, Upgrade}
use Rattle.dp_script.specs.declared.timed_act.TimedAct.{TimedAct}
use Rattle.dp_script.specs.TimedActs.{acts_at}

abbrev pub voters : Plant → ℕ
voters p = length p.thrusters.items

-- a vote of each of the first n voters, in rising order
unfoldable pub vote_events : ℕ → List Event → List Event
vote_events zero es = es
vote_events (suc n) es = event.Vote n ∷ vote_events n es

abbrev pub place_of : ℤ × ℤ → Place
place_of at = record { north = at.0; east = at.1 }

-- a computer offers another the spelling of its state at rest at a place, where it is live
unfoldable pub lie_events : Plant → ℕ → ℕ → Place → List Event → List Event
lie_events p a b at es =
    if is_live (mode a (history p es))
    then event.Lie a b (record { items = spelling_at p a (history p es) at }) ∷ es else es

-- an act in this cycle; one on a voter that the plant doesn't have does nothing
unfoldable pub act_events : Plant → ℕ → Act → List Event → List Event
act_events p cycle (Run c) es = event.Run c ∷ es
act_events p cycle (Order c k) es = if nat_lt k (voters p) then event.Order c k ∷ es else es
act_events p cycle (Orders c) es = order_events c (voters p) es
act_events p cycle (Tell a b) es = event.Tell a b ∷ es
act_events p cycle (Skew c at) es = event.Skew c (place_of at) ∷ es
act_events p cycle (Say c k force) es =
    if nat_lt k (voters p) then event.Say c k cycle force ∷ es else es
act_events p cycle (Lie a b at) es = lie_events p a b (place_of at) es
act_events p cycle (Junk a b bytes) es = event.Lie a b (record { items = bytes.items }) ∷ es
act_events p cycle (Stop c) es = event.Stop c ∷ es
act_events p cycle (Restart c) es = event.Restart c ∷ es
act_events p cycle (Upgrade c) es = event.Upgrade c ∷ es

-- acts, one after another
unfoldable pub events_of_acts : Plant → ℕ → List Act → List Event → List Event
events_of_acts p cycle [] es = es
events_of_acts p cycle (act ∷ acts) es = events_of_acts p cycle acts (act_events p cycle act es)

-- a cycle: its frame is heard, the script's acts of this cycle are done, and each voter votes
unfoldable pub cycle_events : Plant → List TimedAct → Frame → List Event → List Event
cycle_events p script f es = vote_events (voters p)
    (events_of_acts p f.cycle (acts_at f.cycle script) (event.Wire f ∷ es))

-- one cycle for each frame
unfoldable pub play_events : Plant → List TimedAct → List Frame → List Event → List Event
play_events p script [] es = es
play_events p script (f ∷ fs) es = play_events p script fs (cycle_events p script f es)
