-- What a world keeps, and what each event makes of it.
use Rattle.std.specs.Prelude.{◌≡◌, ◌≢◌, ℕ, ◌+◌, ◌<◌, ◌^◌, List, map, length, ℤ, Option, Some, None, if◌then◌else◌, slice_get, slice_set}
use Rattle.dp_plant.specs.FrameRanges.{IsFrameInRange}
use Rattle.dp_plant.specs.Ranges.{IsVectorWithin}
use Rattle.dp_plant.specs.declared.plant.Plant.{Plant}
use Rattle.dp_plant.specs.declared.thrusters.Thruster.{Thruster}
use Rattle.dp_voter.specs.VoterState.{VoterState, begun, new_voter}
use Rattle.dp_voter.specs.Orders.{answer_of, ordered}
use Rattle.dp_voter.specs.Ballots.{voted}
use Rattle.dp_machine.specs.declared.issue.Issue.{Issue}
use Rattle.dp_core.specs.declared.event.Event.{Event}
use Rattle.dp_core.specs.declared.event.Event.TheVariants.{Wire, Run, Order, Tell, Vote, Skew, Say, Lie, Stop, Restart, Upgrade}
use Rattle.dp_exchange.specs.ComputerState.{ComputerState, Control, InControl, SwitchedOff, ToAlign, after_offer, after_restart, after_run, after_skew, after_stop, after_upgrade, after_wire, is_live, mode_of, offer_answer, offered_by, told_text}
use Rattle.dp_exchange.specs.declared.answers.Offer.{Offer}
use Rattle.dp_exchange.specs.Offers.{told_state}
use Rattle.dp_core.specs.Voting.{Message, message_of}

pub record WorldState : Type 0 where
  -- the plant that it was made for
  pub plant : Plant
  pub computers : List ComputerState
  pub voters : List VoterState
  pub cycles_begun : ℕ

-- the voter of a thruster
abbrev pub voter_of : Thruster → VoterState
voter_of t = new_voter t.min t.max

-- the conditions of an event
abbrev pub IsAllowed : WorldState → Event → Type 0
IsAllowed w (Wire f) = (f.cycle ≡ w.cycles_begun) × IsFrameInRange w.plant.groups f
IsAllowed w (Run c) = c < 3
IsAllowed w (Order a k) = (a < 3) × (k < length w.plant.thrusters.items)
IsAllowed w (Vote k) = k < length w.plant.thrusters.items
IsAllowed w (Skew c at) = (c < 3) × IsVectorWithin (2 ^ 43) at
IsAllowed w (Say a k cycle force) = (a < 3) × (k < length w.plant.thrusters.items)
IsAllowed w (Tell a c) = (a < 3) × ((c < 3) × (a ≢ c))
IsAllowed w (Lie a c bytes) = (a < 3) × ((c < 3) × (a ≢ c))
IsAllowed w (Stop c) = c < 3
IsAllowed w (Restart c) = c < 3
IsAllowed w (Upgrade c) = c < 3

-- one of them changed
abbrev pub put_at : {A : Type 0} → List A → ℕ → (A → A) → Option A → List A
put_at xs k change None = xs
put_at xs k change (Some x) = slice_set xs k (change x)

abbrev pub change_at : {A : Type 0} → List A → ℕ → (A → A) → List A
change_at xs k change = put_at xs k change (slice_get xs k)

abbrev pub last_of : Option ComputerState → Option Issue
last_of None = None
last_of (Some x) = x.last

abbrev pub message_by : ℕ × ℤ → Message
message_by s = record { cycle = s.0; force = s.1 }

-- after an order, if there is one
abbrev pub after_order : ℕ → Option Message → VoterState → VoterState
after_order a None v = v
after_order a (Some s) v = ordered v a s.force (answer_of v a s.cycle s.force)

-- after an offer of computer a, of this software and control
unfoldable pub after_told : ℕ → ℕ → Control → ComputerState → ComputerState
after_told a software (InControl s) x = after_offer x a (told_state x.software software s)
after_told a software ToAlign x = x
after_told a software SwitchedOff x = x

-- what it is answered then
unfoldable pub told_answer : ℕ → ℕ → Control → ComputerState → Option Offer
told_answer a software (InControl s) x =
    Some (offer_answer x a (told_state x.software software s))
told_answer a software ToAlign x = None
told_answer a software SwitchedOff x = None

-- after an offer of a text that computer a tells where it is live
abbrev pub with_text : ℕ → Option ComputerState → ComputerState → ComputerState
with_text a None x = x
with_text a (Some y) x =
    if is_live (mode_of y.control) then after_offer x a (offered_by x (told_text y)) else x

-- what it is answered then
abbrev pub text_answer : ℕ → Option ComputerState → Option ComputerState → Option Offer
text_answer a (Some y) (Some x) =
    if is_live (mode_of y.control) then Some (offer_answer x a (offered_by x (told_text y)))
    else None
text_answer a y x = None

abbrev pub after_tell : ℕ → Option ComputerState → ComputerState → ComputerState
after_tell a None x = x
after_tell a (Some y) x = after_told a y.software y.control x

unfoldable pub after : WorldState → Event → WorldState
after w (Wire f) = record w {
  computers = map (λ x. after_wire x f) w.computers;
  voters = map (λ v. begun v w.cycles_begun) w.voters;
  cycles_begun = w.cycles_begun + 1;
}
after w (Run c) = record w { computers = change_at w.computers c after_run }
after w (Order a k) = record w {
  voters = change_at w.voters k (after_order a (message_of k (last_of (slice_get w.computers a))));
}
after w (Vote k) = record w { voters = change_at w.voters k voted }
after w (Skew c at) = record w { computers = change_at w.computers c (λ x. after_skew x at) }
after w (Say a k cycle force) = record w {
  voters = change_at w.voters k (λ v. ordered v a force (answer_of v a cycle force));
}
after w (Tell a c) = record w {
  computers = change_at w.computers c (after_tell a (slice_get w.computers a));
}
after w (Lie a c bytes) = record w {
  computers = change_at w.computers c (λ x. after_offer x a (offered_by x bytes.items));
}
after w (Stop c) = record w { computers = change_at w.computers c after_stop }
after w (Restart c) = record w {
  computers = change_at w.computers c (λ x. after_restart x w.cycles_begun);
}
after w (Upgrade c) = record w {
  computers = change_at w.computers c (λ x. after_upgrade x w.cycles_begun);
}
