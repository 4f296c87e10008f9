-- What a computer keeps of the states that the others offer in a cycle.
use Rattle.std.specs.Prelude.{ℕ, Bool, false, not, ◌&&◌, ◌==◌, List, [], ◌∷◌, nat_le, Option, Some, None, Result, Ok, Err, if◌then◌else◌, slice_index_or}
use Rattle.std.specs.List.{list_any}
use Rattle.dp_machine.specs.declared.state.State.{State}
use Rattle.dp_exchange.specs.SameState.{is_same}

-- the state that each computer offered last, if it offered one
abbrev pub no_offers : List (Option State)
no_offers = None ∷ None ∷ None ∷ []

unfoldable pub offers_same : Option State → State → Bool
offers_same None s = false
offers_same (Some t) s = is_same t s

-- a computer other than the sender offered the same state
unfoldable pub is_confirmed : List (Option State) → ℕ → State → Bool
is_confirmed offers from s =
    list_any (λ c. not (c == from) && offers_same (slice_index_or offers c None) s)
    (0 ∷ 1 ∷ 2 ∷ [])

-- what a computer of one software reads of a state that one of another tells: the state, where it
-- knows the version that is told; else the first part is wrong
unfoldable pub told_state : ℕ → ℕ → State → Result State ℕ
told_state own other s = if nat_le other own then Ok s else Err 0
