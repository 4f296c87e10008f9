-- The ballot of a cycle.
use Rattle.std.specs.Prelude.{◌≡◌, ◌≤◌, ◌<◌, ℕ, List, [], ◌∷◌, ℤ, Option, Some, None, if◌then◌else◌, nat_le}
use Rattle.std.specs.List.{filter_map}
use Rattle.std.specs.Ordering.{int_eq}
use Rattle.dp_fixed.specs.Order.{mid3_of}
use Rattle.dp_plant.specs.declared.voting.Ballot.{Ballot}
use Rattle.dp_plant.specs.declared.voting.Ballot.TheVariants.{Fresh, Held, Zero}
use Rattle.dp_voter.specs.VoterState.{VoterState}

-- the forces that are held, in the order of the computers
abbrev pub held_forces : List (Option ℤ) → List ℤ
held_forces orders = filter_map (λ o. o) orders

-- forces agree on one: three on their middle, just two on the force that both are, and fewer on
-- none
abbrev pub IsAgreed : List ℤ → ℤ → Type 0
IsAgreed (a ∷ b ∷ c ∷ []) force = force ≡ mid3_of a b c
IsAgreed (a ∷ b ∷ []) force = (force ≡ a) × (force ≡ b)
IsAgreed _ force = ⊥

abbrev pub IsNoneAgreed : List ℤ → Type 0
IsNoneAgreed forces = (force : ℤ) → IsAgreed forces force → ⊥

-- the reason for each ballot of a first vote
abbrev pub IsDue : VoterState → Ballot → Type 0
IsDue v (Fresh force) = IsAgreed (held_forces v.orders) force
IsDue v (Held force) = IsNoneAgreed (held_forces v.orders) × (v.run ≤ 5) × (force ≡ v.last_fresh)
IsDue v Zero = IsNoneAgreed (held_forces v.orders) × (5 < v.run)

-- as values: what forces agree on: three on their middle, just two on the force that both are
abbrev pub agreed_of : List ℤ → Option ℤ
agreed_of (a ∷ b ∷ c ∷ []) = Some (mid3_of a b c)
agreed_of (a ∷ b ∷ []) = if int_eq a b then Some a else None
agreed_of _ = None

-- fresh where the orders agree on a force; else the last fresh force is held, up to the fifth cycle
-- in a row; else zero
abbrev pub ballot_from : Option ℤ → ℕ → ℤ → Ballot
ballot_from (Some force) run last_fresh = Fresh force
ballot_from None run last_fresh = if nat_le run 5 then Held last_fresh else Zero

-- the ballot of a first vote
abbrev pub first_ballot : VoterState → Ballot
first_ballot v = ballot_from (agreed_of (held_forces v.orders)) v.run v.last_fresh

-- the ballot that was given in this cycle, or the one that is given now
abbrev pub ballot_given : VoterState → Option Ballot → Ballot
ballot_given v (Some ballot) = ballot
ballot_given v None = first_ballot v

abbrev pub ballot_of : VoterState → Ballot
ballot_of v = ballot_given v v.ballot

-- the ballot is kept; a fresh one is the last fresh one, and ends the run of cycles without
abbrev pub with_ballot : VoterState → Ballot → VoterState
with_ballot v (Fresh force) = record v { ballot = Some (Fresh force); last_fresh = force; run = 0 }
with_ballot v ballot = record v { ballot = Some ballot }

-- a second vote changes nothing
abbrev pub voted_after : VoterState → Option Ballot → VoterState
voted_after v (Some ballot) = v
voted_after v None = with_ballot v (first_ballot v)

abbrev pub voted : VoterState → VoterState
voted v = voted_after v v.ballot
