-- What is kept of the lines that were heard.
use Rattle.std.specs.Prelude.{◌≡◌, ℕ, ◌≤◌, List, length, None}
use Rattle.std.specs.List.{All}
use Rattle.dp_guide.specs.declared.moves_draft.Draft.{Draft}
use Rattle.dp_guide.specs.declared.moves.Move.{Move}
use Rattle.dp_guide.specs.Moves.{first_fault, last_cycle, moves_of}

-- a draft of these lines, newest first, none of which is faulty
pub record IsDraftOf (draft : Draft) (before : List (List ℕ)) : Type 0 where
  pub number : draft.number ≡ length before
  pub count : draft.count ≡ length (moves_of before)
  pub last : draft.last ≡ last_cycle (moves_of before)
  pub clean : first_fault before ≡ None

-- no move is after the last cycle
abbrev pub IsPassed : Draft → Type 0
IsPassed draft = All (λ (m : Move). m.cycle ≤ draft.last) draft.moves
