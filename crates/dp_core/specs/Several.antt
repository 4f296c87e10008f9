-- Several events of one kind, in rising order, and what they make of the voters. Events are listed
-- newest first: the definition says what comes after `es`.
use Rattle.std.specs.Prelude.{ℕ, zero, suc, List, ◌∷◌, length, Option, Some, None}
use Rattle.dp_machine.specs.declared.issue.Issue.{Issue}
use Rattle.dp_voter.specs.VoterState.{VoterState}
use Rattle.dp_core.specs.declared.event.Event.{Event}
use Rattle.dp_core.specs.declared.event.Event.TheVariants.{Order}
use Rattle.dp_core.specs.Voting.{message_of}
use Rattle.dp_core.specs.WorldState.{after_order, change_at}

-- the orders of computer c to the first n voters
unfoldable pub order_events : ℕ → ℕ → List Event → List Event
order_events c zero es = es
order_events c (suc n) es = Order c n ∷ order_events c n es

-- the first n voters after the orders of computer a, whose last issue is x
unfoldable pub sent : ℕ → Issue → ℕ → List VoterState → List VoterState
sent a x zero vs = vs
sent a x (suc n) vs = change_at (sent a x n vs) n (after_order a (message_of n (Some x)))

-- all voters after the orders of computer a, if it has a last issue
abbrev pub sent_by : ℕ → Option Issue → List VoterState → List VoterState
sent_by a None vs = vs
sent_by a (Some x) vs = sent a x (length vs) vs
