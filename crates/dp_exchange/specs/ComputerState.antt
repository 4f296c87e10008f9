-- What a computer keeps, and what each call makes of it.
use Rattle.std.specs.Prelude.{ℕ, ◌+◌, ◌-◌, ◌==◌, nat_lt, Bool, true, false, if◌then◌else◌, List, [], ◌∷◌, ◌++◌, length, slice_set, Option, Some, None, Result, Ok, Err}
use Rattle.circular_buffer.specs.Buffer.{keep_last}
use Rattle.dp_plant.specs.declared.frames.Frame.{Frame}
use Rattle.dp_plant.specs.declared.place.Place.{Place}
use Rattle.dp_plant.specs.declared.plant.Plant.{Plant}
use Rattle.dp_plant.specs.declared.voting.Mode.{Mode}
use Rattle.dp_plant.specs.declared.voting.Mode.TheVariants.{Live, Aligning, Off}
use Rattle.dp_machine.specs.declared.issue.Issue.{Issue}
use Rattle.dp_machine.specs.declared.state.State.{State}
use Rattle.dp_machine.specs.Machine.{one_more}
use Rattle.dp_machine.specs.Step.{Step, first_state, rest_in, step_of}
use Rattle.dp_exchange.specs.declared.answers.Heard.{Heard}
use Rattle.dp_exchange.specs.declared.answers.Heard.TheVariants.{Kept, Overrun, Deaf}
use Rattle.dp_exchange.specs.declared.answers.Offer.{Offer}
use Rattle.dp_exchange.specs.declared.answers.Offer.TheVariants.{Kept as OfferKept, Adopted, NotAligning, BadState, TooNew, TooOld}
use Rattle.dp_exchange.specs.declared.answers.Ran.{Ran}
use Rattle.dp_exchange.specs.declared.answers.Ran.TheVariants.{Issued as RanIssued, Idle as RanIdle, Aligning as RanAligning, Off as RanOff}
use Rattle.dp_codec.specs.Spelling.{spelling_of, state_read}
use Rattle.dp_exchange.specs.Offers.{is_confirmed, no_offers}

-- how a computer takes part: it controls from a state, it waits to be aligned, or it is switched
-- off
pub data Control : Type 0 where
  InControl : (state : State) → Control
  ToAlign : Control
  SwitchedOff : Control

abbrev pub mode_of : Control → Mode
mode_of (InControl s) = Live
mode_of ToAlign = Aligning
mode_of SwitchedOff = Off

-- a computer of a mode, which controls from the state where it is live
abbrev pub control_in : Mode → State → Control
control_in Live s = InControl s
control_in Aligning s = ToAlign
control_in Off s = SwitchedOff

pub record ComputerState : Type 0 where
  pub plant : Plant
  pub control : Control
  -- the frames that wait, the oldest first
  pub waits : List Frame
  -- the number of the frame that comes next
  pub next : ℕ
  -- the state that each computer offered last in this cycle, if it offered one
  pub offers : List (Option State)
  -- the last issue, if there is one since the computer last started
  pub last : Option Issue
  -- how many frames it was stepped over
  pub steps : ℕ
  -- 1 or 2
  pub software : ℕ

-- live at the plant's first state
unfoldable pub first_computer : Plant → ComputerState
first_computer p = record {
  plant = p;
  control = InControl (first_state p);
  waits = [];
  next = 0;
  offers = no_offers;
  last = None;
  steps = 0;
  software = 1;
}

-- switched off, it keeps no frame, no offer and no issue
unfoldable pub after_stop : ComputerState → ComputerState
after_stop x =
    record x { control = SwitchedOff; waits = []; offers = no_offers; last = None }

-- started again, it waits to be aligned, and keeps nothing of before; the next frame has this
-- number
unfoldable pub after_restart : ComputerState → ℕ → ComputerState
after_restart x next = record x {
  control = ToAlign;
  waits = [];
  next = next;
  offers = no_offers;
  last = None;
}

-- likewise with software 2
unfoldable pub after_upgrade : ComputerState → ℕ → ComputerState
after_upgrade x next = record (after_restart x next) { software = 2 }

-- one that fell behind keeps the newest 16 frames, and has to be aligned
abbrev pub with_overrun : ComputerState → Frame → ComputerState
with_overrun x f = record x {
  control = ToAlign;
  waits = keep_last 16 (x.waits ++ f ∷ []);
  next = x.next + 1;
  offers = no_offers;
  last = None;
}

abbrev pub with_frame : ComputerState → Frame → ComputerState
with_frame x f =
    record x { waits = x.waits ++ f ∷ []; next = x.next + 1; offers = no_offers }

abbrev pub with_newest : ComputerState → Frame → ComputerState
with_newest x f = record x {
  waits = keep_last 16 (x.waits ++ f ∷ []);
  next = x.next + 1;
  offers = no_offers;
}

-- a frame comes in, and all offers are forgotten: a live computer in which 16 frames wait already
-- falls behind
unfoldable pub wire_in : ComputerState → Frame → Control → ComputerState
wire_in x f SwitchedOff = record x { offers = no_offers }
wire_in x f ToAlign = with_newest x f
wire_in x f (InControl s) = if length x.waits == 16 then with_overrun x f else with_frame x f

unfoldable pub after_wire : ComputerState → Frame → ComputerState
after_wire x f = wire_in x f x.control

unfoldable pub wire_answer_in : ComputerState → Control → Heard
wire_answer_in x SwitchedOff = Deaf
wire_answer_in x ToAlign = Kept
wire_answer_in x (InControl s) = if length x.waits == 16 then Overrun else Kept

-- what it answers to a frame
unfoldable pub wire_answer : ComputerState → Heard
wire_answer x = wire_answer_in x x.control

-- after a step, with the frames that wait still
unfoldable pub after_step : ComputerState → List Frame → Step → ComputerState
after_step x rest s = record x {
  control = InControl s.next;
  waits = rest;
  last = Some s.issue;
  steps = one_more x.steps;
}

unfoldable pub run_over_oldest : ComputerState → State → List Frame → ComputerState
run_over_oldest x s [] = x
run_over_oldest x s (f ∷ fs) = after_step x fs (step_of x.plant s f)

unfoldable pub run_in : ComputerState → Control → ComputerState
run_in x (InControl s) = run_over_oldest x s x.waits
run_in x ToAlign = x
run_in x SwitchedOff = x

-- a live computer steps over the oldest frame that waits
unfoldable pub after_run : ComputerState → ComputerState
after_run x = run_in x x.control

unfoldable pub oldest_answer : ComputerState → State → List Frame → Ran
oldest_answer x s [] = RanIdle
oldest_answer x s (f ∷ fs) = RanIssued (step_of x.plant s f).issue

unfoldable pub run_answer_in : ComputerState → Control → Ran
run_answer_in x (InControl s) = oldest_answer x s x.waits
run_answer_in x ToAlign = RanAligning
run_answer_in x SwitchedOff = RanOff

-- what it answers then
unfoldable pub run_answer : ComputerState → Ran
run_answer x = run_answer_in x x.control

unfoldable pub skew_in : ComputerState → Place → Control → ComputerState
skew_in x at (InControl s) = record x { control = InControl (rest_in s at) }
skew_in x at ToAlign = x
skew_in x at SwitchedOff = x

-- a live computer takes the vessel to be at rest at a place
unfoldable pub after_skew : ComputerState → Place → ComputerState
after_skew x at = skew_in x at x.control

abbrev pub is_live : Mode → Bool
is_live Live = true
is_live Aligning = false
is_live Off = false

-- what it answers then
unfoldable pub skew_answer : ComputerState → Bool
skew_answer x = is_live (mode_of x.control)

-- ---- states that are told and offered

-- what it tells of a state: its spelling, in the version that its software writes
unfoldable pub tell_in : ComputerState → Control → List ℕ
tell_in x (InControl s) = spelling_of x.plant x.software s
tell_in x ToAlign = []
tell_in x SwitchedOff = []

-- what a live computer tells
unfoldable pub told_text : ComputerState → List ℕ
told_text x = tell_in x x.control

-- what it would tell if the vessel were at rest at a place
unfoldable pub text_at : ComputerState → Place → List ℕ
text_at x at = told_text (after_skew x at)

-- the number of the oldest frame that waits, or of the next where none does
abbrev pub oldest : ComputerState → ℕ
oldest x = x.next - length x.waits

-- it keeps a state that fits its frames; where another computer offered the same one, it goes on
-- from it, and the frames that the state hasn't seen wait
unfoldable pub with_offer : ComputerState → ℕ → State → Bool → ComputerState
with_offer x from s false = record x { offers = slice_set x.offers from (Some s) }
with_offer x from s true = record x {
  control = InControl s;
  waits = keep_last (x.next - s.count) x.waits;
  offers = slice_set x.offers from (Some s);
}

unfoldable pub after_state : ComputerState → ℕ → State → ComputerState
after_state x from s =
    if nat_lt x.next s.count then x
    else (if nat_lt s.count (oldest x) then x
    else with_offer x from s (is_confirmed x.offers from s))

unfoldable pub offer_in : ComputerState → ℕ → Result State ℕ → Control → ComputerState
offer_in x from (Ok s) ToAlign = after_state x from s
offer_in x from (Err place) ToAlign = x
offer_in x from offered (InControl s) = x
offer_in x from offered SwitchedOff = x

-- a computer offers a state, or bytes that spell none
unfoldable pub after_offer : ComputerState → ℕ → Result State ℕ → ComputerState
after_offer x from offered = offer_in x from offered x.control

unfoldable pub state_answer : ComputerState → ℕ → State → Offer
state_answer x from s =
    if nat_lt x.next s.count then TooNew s.count x.next
    else (if nat_lt s.count (oldest x) then TooOld s.count (oldest x)
    else (if is_confirmed x.offers from s then Adopted else OfferKept))

unfoldable pub offer_answer_in : ComputerState → ℕ → Result State ℕ → Control → Offer
offer_answer_in x from (Ok s) ToAlign = state_answer x from s
offer_answer_in x from (Err place) ToAlign = BadState place
offer_answer_in x from offered (InControl s) = NotAligning
offer_answer_in x from offered SwitchedOff = NotAligning

-- what it answers then
unfoldable pub offer_answer : ComputerState → ℕ → Result State ℕ → Offer
offer_answer x from offered = offer_answer_in x from offered x.control

-- what it reads of bytes
abbrev pub offered_by : ComputerState → List ℕ → Result State ℕ
offered_by x bytes = state_read x.plant x.software bytes
