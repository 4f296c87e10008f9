-- What holds of every list of events.
use Rattle.std.specs.Prelude.{◌≡◌, ◌<◌, ◌-◌, ℕ, ℤ, List, ◌∷◌, ◌++◌, take, true, false, Some, None}
use Rattle.dp_plant.specs.declared.plant.Plant.{Plant}
use Rattle.dp_plant.specs.declared.voting.Ballot.TheVariants.{Fresh}
use Rattle.dp_plant.specs.declared.voting.Mode.TheVariants.{Live}
use Rattle.dp_alloc.specs.Refusals.{AreAccepted}
use Rattle.dp_voter.specs.declared.order.Took.TheVariants.{Taken}
use Rattle.dp_machine.specs.Reference.{force_of, reference_state}
use Rattle.dp_machine.specs.Run.{own_setpoints}
use Rattle.dp_core.specs.declared.event.Event.{Event}
use Rattle.dp_core.specs.declared.event.Event.TheVariants.{Order}
use Rattle.dp_core.specs.declared.event.Seen.TheVariants.{Sent}
use Rattle.dp_core.specs.Faulty.{AtMostOneFaulty, is_faulty, is_faulty_in_cycle, is_skewed}
use Rattle.dp_core.specs.History.{history, seen_of}
use Rattle.dp_core.specs.Mode.{cycles_begun, frames, mode}
use Rattle.dp_core.specs.Moment.{is_adoption}
use Rattle.dp_core.specs.OnReference.{IsOnReference, goes_on}
use Rattle.dp_core.specs.OwnForce.{IsOwnForce, is_said}
use Rattle.dp_core.specs.Trajectory.{frames_done, trajectory}
use Rattle.dp_core.specs.Voting.{ballot, given_ballot, is_delivered, taken_force}

-- with at most one faulty computer in any cycle, each live computer that wasn't skewed since its
-- last break has come to the state of the reference run after the frames that it has done
abbrev pub TrajectoriesAreReference : Type 0
TrajectoriesAreReference = (p : Plant) (es : List Event) → AtMostOneFaulty (history p es)
    → (c : ℕ) → mode c (history p es) ≡ Live → is_skewed c (history p es) ≡ false
    → trajectory p c (history p es)
    ≡ reference_state p (own_setpoints p)
    (take (frames_done p c (history p es)) (frames (history p es)))

-- with at most one faulty computer in any cycle, a computer that adopts a state is live with the
-- reference run's, and from then on, until it is broken or skewed, so it stays: its issues are the
-- reference run's, those of the frames that waited included
abbrev pub AdoptedIsReference : Type 0
AdoptedIsReference = (p : Plant) (e : Event) (es : List Event)
    → AtMostOneFaulty (history p (e ∷ es))
    → (c : ℕ) → is_adoption c (record { event = e; seen = seen_of p (history p es) e }) ≡ true
    → (later : List Event) → goes_on p c later (e ∷ es) ≡ true
    → IsOnReference p c (history p (later ++ e ∷ es))

-- a computer that isn't faulty isn't skewed
abbrev pub SkewedIsFaulty : Type 0
SkewedIsFaulty = (p : Plant) (es : List Event) (c : ℕ)
    → is_faulty c (history p es) ≡ false → is_skewed c (history p es) ≡ false

-- with at most one faulty computer in any cycle, a fresh ballot of this cycle is the reference
-- run's force
abbrev pub FreshIsReference : Type 0
FreshIsReference = (p : Plant) (es : List Event) → AtMostOneFaulty (history p es)
    → (k : ℕ) (f : ℤ) → given_ballot k (history p es) ≡ Some (Fresh f)
    → force_of p (own_setpoints p) (frames (history p es)) (cycles_begun (history p es) - 1) k
    ≡ Some f

-- whatever is faulty, the force that a voter takes from a computer's last issue is one that the
-- computer's own trajectory issued for
-- this cycle; so it is after a skew
abbrev pub TakenIsOwn : Type 0
TakenIsOwn = (p : Plant) (es : List Event) (k a : ℕ)
    → seen_of p (history p es) (Order a k) ≡ Sent (Some Taken)
    → (f : ℤ) × (taken_force k a (history p (Order a k ∷ es)) ≡ Some f) × IsOwnForce p k a es f

-- so is each that it holds of a computer in whose name no force was said to it in this cycle
abbrev pub HeldIsOwn : Type 0
HeldIsOwn = (p : Plant) (es : List Event) (k a : ℕ) (f : ℤ)
    → is_said k a (history p es) ≡ false → taken_force k a (history p es) ≡ Some f
    → IsOwnForce p k a es f

-- where no case of the plant is refused, and the issues of two computers that aren't faulty in this
-- cycle were delivered in it, the first vote of this cycle is fresh, with the reference run's force
abbrev pub TwoHeardAreFresh : Type 0
TwoHeardAreFresh = (p : Plant) → AreAccepted p
    → (es : List Event) → AtMostOneFaulty (history p es)
    → (k a b : ℕ) → a < b → b < 3
    → is_faulty_in_cycle a (history p es) ≡ false → is_faulty_in_cycle b (history p es) ≡ false
    → is_delivered k a (history p es) ≡ true → is_delivered k b (history p es) ≡ true
    → given_ballot k (history p es) ≡ None
    → (f : ℤ) × (ballot k (history p es) ≡ Fresh f)
    × (force_of p (own_setpoints p) (frames (history p es)) (cycles_begun (history p es) - 1) k
    ≡ Some f)
