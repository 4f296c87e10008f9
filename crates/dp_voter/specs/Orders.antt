-- Which orders a voter takes, which it refuses, and why.
use Rattle.std.specs.Prelude.{◌≡◌, ◌⊎◌, ◌≤ℤ◌, ◌<ℤ◌, ℕ, Bool, false, not, ◌||◌, ◌==◌, List, ℤ, Option, Some, None, IsNone, IsSome, is_some, if◌then◌else◌, int_lt, slice_index_or, slice_set, unwrap_or}
use Rattle.dp_voter.specs.declared.order.Took.{Took}
use Rattle.dp_voter.specs.declared.order.Took.TheVariants.{Taken, Stale, Unfit, Repeated}
use Rattle.dp_voter.specs.VoterState.{VoterState}

-- what is held of a computer
abbrev pub order_of : List (Option ℤ) → ℕ → Option ℤ
order_of orders from = slice_index_or orders from None

-- an order of this cycle is still awaited: the cycle is the voter's, and its vote was not given
pub record IsAwaited (v : VoterState) (cycle : ℕ) : Type 0 where
  pub of_its_cycle : v.cycle ≡ Some cycle
  pub before_its_vote : v.ballot ≡ None

-- a force is within the limits
pub record IsWithin (low high force : ℤ) : Type 0 where
  pub above : low ≤ℤ force
  pub below : force ≤ℤ high

-- a force passes this limit of the thruster
abbrev pub IsPast : VoterState → ℤ → ℤ → Type 0
IsPast v force limit = ((force <ℤ v.low) × (limit ≡ v.low)) ⊎ ((v.high <ℤ force) × (limit ≡ v.high))

-- the reason for each answer, that of an earlier one not given
abbrev pub IsReasonFor : VoterState → ℕ → ℕ → ℤ → Took → Type 0
IsReasonFor v from cycle force (Stale told) = (IsAwaited v cycle → ⊥) × (told ≡ unwrap_or v.cycle 0)
IsReasonFor v from cycle force (Unfit limit) = IsAwaited v cycle × IsPast v force limit
IsReasonFor v from cycle force Repeated =
    IsAwaited v cycle × IsWithin v.low v.high force × IsSome (order_of v.orders from)
IsReasonFor v from cycle force Taken =
    IsAwaited v cycle × IsWithin v.low v.high force × IsNone (order_of v.orders from)

abbrev pub is_cycle : Option ℕ → ℕ → Bool
is_cycle None cycle = false
is_cycle (Some now) cycle = now == cycle

-- the answer to an order, as a value: the first that has its reason
abbrev pub answer_of : VoterState → ℕ → ℕ → ℤ → Took
answer_of v from cycle force =
    if not (is_cycle v.cycle cycle) || is_some v.ballot then Stale (unwrap_or v.cycle 0)
    else (if int_lt force v.low then Unfit v.low
    else (if int_lt v.high force then Unfit v.high
    else (if is_some (order_of v.orders from) then Repeated else Taken)))

-- an order that is taken is held; one that is refused changes nothing
abbrev pub ordered : VoterState → ℕ → ℤ → Took → VoterState
ordered v from force Taken = record v { orders = slice_set v.orders from (Some force) }
ordered v from force _ = v
