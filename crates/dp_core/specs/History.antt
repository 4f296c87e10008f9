-- The history of a list of events: each with what was seen of it, by the moments before.
use Rattle.std.specs.Prelude.{ℕ, ◌-◌, nat_lt, List, [], ◌∷◌, ◌==◌, Option, Some, None, Result, Ok, Err, if◌then◌else◌, slice_get}
use Rattle.dp_plant.specs.declared.frames.Frame.{Frame}
use Rattle.dp_plant.specs.declared.plant.Plant.{Plant}
use Rattle.dp_plant.specs.declared.voting.Mode.{Mode}
use Rattle.dp_plant.specs.declared.voting.Mode.TheVariants.{Live, Aligning, Off}
use Rattle.dp_machine.specs.declared.state.State.{State}
use Rattle.dp_machine.specs.Step.{step_of}
use Rattle.dp_exchange.specs.declared.answers.Heard.{Heard}
use Rattle.dp_exchange.specs.declared.answers.Heard.TheVariants.{Kept, Overrun, Deaf}
use Rattle.dp_exchange.specs.declared.answers.Offer.{Offer}
use Rattle.dp_exchange.specs.declared.answers.Offer.TheVariants.{Kept as OfferKept, Adopted, NotAligning, BadState, TooNew, TooOld}
use Rattle.dp_exchange.specs.declared.answers.Ran.{Ran}
use Rattle.dp_exchange.specs.declared.answers.Ran.TheVariants.{Issued as RanIssued, Idle as RanIdle, Aligning as RanAligning, Off as RanOff}
use Rattle.dp_core.specs.declared.event.Event.{Event}
use Rattle.dp_core.specs.declared.event.Event.TheVariants.{Wire, Run, Order, Tell, Vote, Skew, Say, Lie, Stop, Restart, Upgrade}
use Rattle.dp_core.specs.declared.event.Seen.{Seen}
use Rattle.dp_core.specs.declared.event.Seen.TheVariants.{Heard as SeenHeard, Ran as SeenRan, Sent as SeenSent, Offered as SeenOffered, Voted as SeenVoted, Skewed as SeenSkewed, Done as SeenDone}
use Rattle.dp_exchange.specs.ComputerState.{is_live}
use Rattle.dp_exchange.specs.Offers.{is_confirmed}
use Rattle.dp_core.specs.Moment.{Moment}
use Rattle.dp_core.specs.HeldOffers.{held_offers, offered}
use Rattle.dp_core.specs.Mode.{cycles_begun, frames, mode, oldest}
use Rattle.dp_core.specs.Trajectory.{frames_done, last_issue, trajectory}
use Rattle.dp_core.specs.Voting.{answer, answer_if, ballot, message_of}

-- of the next frame: a live computer overruns where sixteen frames wait that it hasn't done
unfoldable pub answer_to_wire : Plant → ℕ → List Moment → Mode → Heard
answer_to_wire p c h Off = Deaf
answer_to_wire p c h Aligning = Kept
answer_to_wire p c h Live = if cycles_begun h - frames_done p c h == 16 then Overrun else Kept

-- what each of the three computers answers to the next frame
abbrev pub answers_to_wire : Plant → List Moment → List Heard
answers_to_wire p h =
    answer_to_wire p 0 h (mode 0 h) ∷ answer_to_wire p 1 h (mode 1 h)
    ∷ answer_to_wire p 2 h (mode 2 h) ∷ []

unfoldable pub answer_over : Plant → State → Option Frame → Ran
answer_over p s None = RanIdle
answer_over p s (Some f) = RanIssued (step_of p s f).issue

-- of a Run: a live computer's trajectory goes on over the first frame that it hasn't done
unfoldable pub answer_to_run : Plant → ℕ → List Moment → Mode → Ran
answer_to_run p c h Off = RanOff
answer_to_run p c h Aligning = RanAligning
answer_to_run p c h Live =
    answer_over p (trajectory p c h) (slice_get (frames h) (frames_done p c h))

-- of a state of computer a: too new or too old for the frames that wait, adopted where another
-- computer offered the same one in this cycle, else kept
unfoldable pub answer_to_state : Plant → ℕ → ℕ → List Moment → State → Offer
answer_to_state p c a h s =
    if nat_lt (cycles_begun h) s.count then TooNew s.count (cycles_begun h)
    else (if nat_lt s.count (oldest c h) then TooOld s.count (oldest c h)
    else (if is_confirmed (held_offers p c h) a s then Adopted else OfferKept))

unfoldable pub answer_to_read : Plant → ℕ → ℕ → List Moment → Result State ℕ → Offer
answer_to_read p c a h (Ok s) = answer_to_state p c a h s
answer_to_read p c a h (Err place) = BadState place

-- of what computer c reads of an offer of computer a: only an aligning computer goes by it
unfoldable pub answer_in : Plant → ℕ → ℕ → List Moment → Result State ℕ → Mode → Offer
answer_in p c a h read Aligning = answer_to_read p c a h read
answer_in p c a h read Live = NotAligning
answer_in p c a h read Off = NotAligning

-- of an offer, if it comes
unfoldable pub answer_to_offer : Plant → ℕ → ℕ → List Moment → Option (Result State ℕ)
    → Option Offer
answer_to_offer p c a h None = None
answer_to_offer p c a h (Some read) = Some (answer_in p c a h read (mode c h))

unfoldable pub seen_of : Plant → List Moment → Event → Seen
seen_of p h (Wire f) = SeenHeard (answers_to_wire p h)
seen_of p h (Run c) = SeenRan (answer_to_run p c h (mode c h))
seen_of p h (Order a k) = SeenSent (answer_if p k a h (message_of k (last_issue a h)))
seen_of p h (Say a k cycle force) =
    SeenSent (Some (answer p k a h (record { cycle = cycle; force = force })))
seen_of p h (Tell a c) = SeenOffered (answer_to_offer p c a h (offered p h (Tell a c)))
seen_of p h (Lie a c bytes) =
    SeenOffered (answer_to_offer p c a h (offered p h (Lie a c bytes)))
seen_of p h (Vote k) = SeenVoted (ballot k h)
seen_of p h (Skew c at) = SeenSkewed (is_live (mode c h))
seen_of p h (Stop c) = SeenDone
seen_of p h (Restart c) = SeenDone
seen_of p h (Upgrade c) = SeenDone

-- the newest first, of events as of moments
unfoldable pub history : Plant → List Event → List Moment
history p [] = []
history p (e ∷ before) =
    record { event = e; seen = seen_of p (history p before) e } ∷ history p before
