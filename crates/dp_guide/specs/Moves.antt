-- The list of moves of a text, and its first faulty line. Lines and moves that come before another
-- stand newest first.
use Rattle.std.specs.Prelude.{◌≡◌, ℕ, ◌+◌, ◌≤◌, ◌^◌, Bool, true, false, ◌==◌, nat_lt, nat_le, List, [], ◌∷◌, length, reverse, Option, Some, None, Result, Ok, Err, if◌then◌else◌}
use Rattle.std.specs.List.{All, filter_map}
use Rattle.std.specs.List.Sorted.{IsNonDecreasingBy}
use Rattle.std.specs.Option.{option_map, option_or}
use Rattle.std.specs.Result.{result_ok}
use Rattle.dp_text.specs.{lines_of}
use Rattle.dp_guide.specs.declared.moves.Move.{Move}
use Rattle.dp_guide.specs.declared.moves_fault.MovesFault.{MovesFault}
use Rattle.dp_guide.specs.declared.moves_fault.MovesFault.TheVariants.{Line}
use Rattle.dp_guide.specs.declared.moves_fault.MovesKind.{MovesKind}
use Rattle.dp_guide.specs.declared.moves_fault.MovesKind.TheVariants.{Range, Order}
use Rattle.dp_guide.specs.MoveLines.{IsMoveWithin, move_of}

-- a line that is empty or begins with `#` is skipped
abbrev pub is_skipped : List ℕ → Bool
is_skipped [] = true
is_skipped (c ∷ cs) = c == 35

-- the move of a line, where it isn't skipped and has no fault of its own
unfoldable pub said_by : List ℕ → Option Move
said_by line = if is_skipped line then None else result_ok (move_of line)

-- the moves of lines, in order
abbrev pub moves_of : List (List ℕ) → List Move
moves_of lines = filter_map said_by lines

-- the cycle of the last move, or 0
abbrev pub last_cycle : List Move → ℕ
last_cycle [] = 0
last_cycle (m ∷ before) = m.cycle

-- the fault of a move after those before it: one too many, or a cycle that goes back
abbrev pub fault_after : List Move → Move → Option MovesKind
fault_after before m =
    if nat_le (2 ^ 16) (length before) then Some Range
    else if nat_lt m.cycle (last_cycle before) then Some Order
    else None

abbrev pub fault_of_move : List Move → Result Move MovesKind → Option MovesKind
fault_of_move before (Err kind) = Some kind
fault_of_move before (Ok m) = fault_after before m

-- the fault of a line after those before it: its own, or that of its move
unfoldable pub fault_of : List (List ℕ) → List ℕ → Option MovesKind
fault_of before line =
    if is_skipped line then None else fault_of_move (moves_of before) (move_of line)

-- the first faulty line, lines counted from 1
unfoldable pub first_fault : List (List ℕ) → Option MovesFault
first_fault [] = None
first_fault (line ∷ before) =
    option_or (first_fault before) (option_map (Line (length before + 1)) (fault_of before line))

-- the first faulty line of a text
abbrev pub fault_in : List ℕ → Option MovesFault
fault_in text = first_fault (reverse (lines_of false text))

-- the moves of a text, in order
abbrev pub moves_in : List ℕ → List Move
moves_in text = moves_of (lines_of false text)

-- cycles don't go back, and each move is within its ranges
pub record IsMoveList (moves : List Move) : Type 0 where
  pub sorted : IsNonDecreasingBy (λ (m : Move). m.cycle) moves
  pub within : All IsMoveWithin moves
