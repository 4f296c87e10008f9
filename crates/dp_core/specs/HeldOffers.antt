-- The states that were offered to a computer in this cycle.
use Rattle.std.specs.Prelude.{ℕ, ◌&&◌, ◌||◌, List, [], ◌∷◌, Option, None, Result, if◌then◌else◌}
use Rattle.dp_plant.specs.declared.plant.Plant.{Plant}
use Rattle.dp_machine.specs.declared.state.State.{State}
use Rattle.dp_core.specs.declared.event.Event.{Event}
use Rattle.dp_core.specs.Moment.{Moment, is_break, is_offer, is_wire, saw_fit, sender}
use Rattle.dp_core.specs.Offered.{offer_by, state_in}
use Rattle.dp_core.specs.Trajectory.{trajectory}

-- what is read of an offer, if it comes; a computer tells the state that its trajectory has come to
unfoldable pub offered : Plant → List Moment → Event → Option (Result State ℕ)
offered p h e = offer_by p h e (trajectory p (sender e) h)

-- the state of the last offer of computer a to computer c that fits, after the last Wire and the
-- last break of c
unfoldable pub held_offer : Plant → ℕ → ℕ → List Moment → Option State
held_offer p c a [] = None
held_offer p c a (m ∷ h) =
    if is_wire m.event || is_break c m then None
    else (if is_offer a c m.event && saw_fit m.seen then state_in (offered p h m.event)
    else held_offer p c a h)

-- those of the three computers
abbrev pub held_offers : Plant → ℕ → List Moment → List (Option State)
held_offers p c h = held_offer p c 0 h ∷ held_offer p c 1 h ∷ held_offer p c 2 h ∷ []
