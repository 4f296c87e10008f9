-- What follows from the rules of orders and ballots.
use Rattle.std.specs.Prelude.{◌≡◌, ◌⊎◌, ℕ, List, [], ◌∷◌, ℤ, ◌≤ℤ◌, Option, Some, None}
use Rattle.std.specs.List.{All}
use Rattle.dp_fixed.specs.Order.{IsMiddle, mid3_of}
use Rattle.dp_voter.specs.declared.order.Took.{Took}
use Rattle.dp_voter.specs.VoterState.{VoterState, begun, new_voter}
use Rattle.dp_voter.specs.Orders.{IsReasonFor, IsWithin, answer_of, ordered}
use Rattle.dp_voter.specs.Ballots.{agreed_of, ballot_of, held_forces, voted}

-- each answer has its reason, and no other answer has one
pub record AnswerHasReason : Type 0 where
  pub reason : (v : VoterState) (from cycle : ℕ) (force : ℤ)
      → IsReasonFor v from cycle force (answer_of v from cycle force)
  pub only : (v : VoterState) (from cycle : ℕ) (force : ℤ) (answer : Took) → v.low ≤ℤ v.high
      → IsReasonFor v from cycle force answer → answer ≡ answer_of v from cycle force

abbrev pub SecondVoteIsFirst : Type 0
SecondVoteIsFirst =
    (v : VoterState) → (ballot_of (voted v) ≡ ballot_of v) × (voted (voted v) ≡ voted v)

abbrev pub TwoEqualDecide : Type 0
TwoEqualDecide =
    (f other : ℤ) → (mid3_of f f other ≡ f) × (mid3_of f other f ≡ f) × (mid3_of other f f ≡ f)

abbrev pub FreshIsBetween : Type 0
FreshIsBetween = (a b c f : ℤ) → agreed_of (a ∷ b ∷ c ∷ []) ≡ Some f → IsMiddle a b c f

-- an order, if one was taken, is of this force
abbrev pub IsIfTaken : ℤ → Option ℤ → Type 0
IsIfTaken force None = Unit {0}
IsIfTaken force (Some f) = f ≡ force

-- a fact of at least two of three orders
abbrev pub OfTwo : (Option ℤ → Type 0) → Option ℤ → Option ℤ → Option ℤ → Type 0
OfTwo P x y z = (P x × P y) ⊎ (P x × P z) ⊎ (P y × P z)

-- where at most one computer orders another force than the right one, the fresh force is the right
-- one
abbrev pub FreshIsRight : Type 0
FreshIsRight =
    (right f : ℤ) (x y z : Option ℤ) → OfTwo (IsIfTaken right) x y z
    → agreed_of (held_forces (x ∷ y ∷ z ∷ [])) ≡ Some f → f ≡ right

-- where two orders of the right force were taken, whatever the third is, it is the fresh one
abbrev pub TwoRightAreFresh : Type 0
TwoRightAreFresh =
    (right : ℤ) (x y z : Option ℤ) → OfTwo (λ order. order ≡ Some right) x y z
    → agreed_of (held_forces (x ∷ y ∷ z ∷ [])) ≡ Some right

abbrev pub FreshIsWithin : Type 0
FreshIsWithin =
    (low high f : ℤ) (forces : List ℤ) → All (IsWithin low high) forces → agreed_of forces ≡ Some f
    → IsWithin low high f

abbrev pub AreOrdersWithin : VoterState → Type 0
AreOrdersWithin v = All (IsWithin v.low v.high) (held_forces v.orders)

pub record OrdersStayWithin : Type 0 where
  pub new : (low high : ℤ) → AreOrdersWithin (new_voter low high)
  pub begin : (v : VoterState) (cycle : ℕ) → AreOrdersWithin (begun v cycle)
  pub order : (v : VoterState) (from cycle : ℕ) (force : ℤ) → AreOrdersWithin v
      → AreOrdersWithin (ordered v from force (answer_of v from cycle force))
  pub vote : (v : VoterState) → AreOrdersWithin v → AreOrdersWithin (voted v)
