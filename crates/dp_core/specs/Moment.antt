-- A moment: an event, and what was seen of it.
use Rattle.std.specs.Prelude.{ℕ, Bool, true, false, ◌&&◌, ◌||◌, List, [], ◌∷◌, Option, Some, None, is_some, if◌then◌else◌, ◌==◌, slice_get, ℤ}
use Rattle.dp_plant.specs.declared.frames.Frame.{Frame}
use Rattle.dp_plant.specs.declared.place.Place.{Place}
use Rattle.dp_plant.specs.declared.voting.Ballot.{Ballot}
use Rattle.dp_plant.specs.declared.voting.Ballot.TheVariants.{Fresh}
use Rattle.dp_voter.specs.declared.order.Took.TheVariants.{Taken}
use Rattle.dp_machine.specs.declared.issue.Issue.{Issue}
use Rattle.dp_exchange.specs.declared.answers.Heard.{Heard}
use Rattle.dp_exchange.specs.declared.answers.Heard.TheVariants.{Overrun}
use Rattle.dp_exchange.specs.declared.answers.Offer.TheVariants.{Adopted, Kept as OfferKept}
use Rattle.dp_exchange.specs.declared.answers.Ran.TheVariants.{Issued as RanIssued}
use Rattle.dp_core.specs.declared.event.Event.{Event}
use Rattle.dp_core.specs.declared.event.Event.TheVariants.{Wire, Run, Order, Tell, Vote, Skew, Say, Lie, Stop, Restart, Upgrade}
use Rattle.dp_core.specs.declared.event.Seen.{Seen}
use Rattle.dp_core.specs.declared.event.Seen.TheVariants.{Heard as SeenHeard, Ran as SeenRan, Sent as SeenSent, Offered as SeenOffered, Voted as SeenVoted, Skewed as SeenSkewed}

pub record Moment : Type 0 where
  pub event : Event
  pub seen : Seen

-- ---- the event

-- the frame that it brings
unfoldable pub frame_of : Event → List Frame
frame_of (Wire f) = f ∷ []
frame_of _ = []

unfoldable pub is_wire : Event → Bool
is_wire (Wire f) = true
is_wire _ = false

unfoldable pub is_run : ℕ → Event → Bool
is_run c (Run d) = d == c
is_run c _ = false

unfoldable pub is_stop : ℕ → Event → Bool
is_stop c (Stop d) = d == c
is_stop c _ = false

unfoldable pub is_restart : ℕ → Event → Bool
is_restart c (Restart d) = d == c
is_restart c _ = false

unfoldable pub is_upgrade : ℕ → Event → Bool
is_upgrade c (Upgrade d) = d == c
is_upgrade c _ = false

unfoldable pub is_vote : ℕ → Event → Bool
is_vote k (Vote j) = j == k
is_vote k _ = false

-- an order of computer a to voter k, be it that of its last issue or a false one
unfoldable pub is_order : ℕ → ℕ → Event → Bool
is_order a k (Order b j) = (b == a) && (j == k)
is_order a k (Say b j cycle force) = (b == a) && (j == k)
is_order a k _ = false

-- an offer of computer a to computer c, be it of its own state or a false one
unfoldable pub is_offer : ℕ → ℕ → Event → Bool
is_offer a c (Tell b d) = (b == a) && (d == c)
is_offer a c (Lie b d bytes) = (b == a) && (d == c)
is_offer a c _ = false

-- an offer of any computer to c
unfoldable pub is_offer_to : ℕ → Event → Bool
is_offer_to c (Tell b d) = d == c
is_offer_to c (Lie b d bytes) = d == c
is_offer_to c _ = false

-- the computer whose offer it is
unfoldable pub sender : Event → ℕ
sender (Tell a c) = a
sender (Lie a c bytes) = a
sender _ = 0

-- the place of a Skew of c
unfoldable pub place_of_skew : ℕ → Event → Option Place
place_of_skew c (Skew d at) = if d == c then Some at else None
place_of_skew c _ = None

-- a fault of c: a Skew, a Say or a Lie of it
unfoldable pub is_fault : ℕ → Event → Bool
is_fault c (Skew d at) = d == c
is_fault c (Say d voter cycle force) = d == c
is_fault c (Lie d to bytes) = d == c
is_fault c _ = false

-- ---- what was seen

unfoldable pub is_overrun : Option Heard → Bool
is_overrun (Some Overrun) = true
is_overrun _ = false

-- computer c overran
unfoldable pub saw_overrun : ℕ → Seen → Bool
saw_overrun c (SeenHeard hs) = is_overrun (slice_get hs c)
saw_overrun c _ = false

unfoldable pub saw_issue : Seen → Option Issue
saw_issue (SeenRan (RanIssued x)) = Some x
saw_issue _ = None

unfoldable pub saw_taken : Seen → Bool
saw_taken (SeenSent (Some Taken)) = true
saw_taken _ = false

-- an offer that fits was kept, or adopted at once
unfoldable pub saw_fit : Seen → Bool
saw_fit (SeenOffered (Some OfferKept)) = true
saw_fit (SeenOffered (Some Adopted)) = true
saw_fit _ = false

unfoldable pub saw_adoption : Seen → Bool
saw_adoption (SeenOffered (Some Adopted)) = true
saw_adoption _ = false

unfoldable pub saw_ballot : Seen → Option Ballot
saw_ballot (SeenVoted b) = Some b
saw_ballot _ = None

unfoldable pub saw_skew : Seen → Bool
saw_skew (SeenSkewed b) = b
saw_skew _ = false

unfoldable pub fresh_of : Option Ballot → Option ℤ
fresh_of (Some (Fresh f)) = Some f
fresh_of _ = None

-- ---- both

-- c is off from here on: it was stopped
unfoldable pub is_end : ℕ → Moment → Bool
is_end c m = is_stop c m.event

-- c has to be aligned from here on: it was started again, with the same software or the newer, or
-- it overran
unfoldable pub is_interruption : ℕ → Moment → Bool
is_interruption c m =
    is_restart c m.event || (is_upgrade c m.event || saw_overrun c m.seen)

-- what ends a stretch of c
unfoldable pub is_break : ℕ → Moment → Bool
is_break c m = is_end c m || is_interruption c m

-- a Skew of c while it is live
unfoldable pub is_skew : ℕ → Moment → Bool
is_skew c m = is_some (place_of_skew c m.event) && saw_skew m.seen

-- c goes on from a state that two others offered
unfoldable pub is_adoption : ℕ → Moment → Bool
is_adoption c m = is_offer_to c m.event && saw_adoption m.seen

-- c goes on from another state than it had come to: it adopted one, or was skewed
unfoldable pub is_base : ℕ → Moment → Bool
is_base c m = is_adoption c m || is_skew c m

-- the issue of a Run of c
unfoldable pub issue_at : ℕ → Moment → Option Issue
issue_at c m = if is_run c m.event then saw_issue m.seen else None

-- the ballot of a Vote of k
unfoldable pub ballot_at : ℕ → Moment → Option Ballot
ballot_at k m = if is_vote k m.event then saw_ballot m.seen else None
