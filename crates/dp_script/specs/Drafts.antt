-- What is kept of the lines that were heard.
use Rattle.std.specs.Prelude.{◌≡◌, ℕ, ◌≤◌, List, length, None}
use Rattle.std.specs.List.{All}
use Rattle.dp_script.specs.declared.draft.Draft.{Draft}
use Rattle.dp_script.specs.declared.timed_act.TimedAct.{TimedAct}
use Rattle.dp_script.specs.Faults.{instructions_of, last_cycle, first_fault}

-- a draft of these lines, newest first, none of which is faulty
pub record IsDraftOf (draft : Draft) (before : List (List ℕ)) : Type 0 where
  pub number : draft.number ≡ length before
  pub count : draft.count ≡ length (instructions_of before)
  pub last : draft.last ≡ last_cycle (instructions_of before)
  pub clean : first_fault before ≡ None

-- no timed act is after the last cycle
abbrev pub IsPassed : Draft → Type 0
IsPassed draft = All (λ (timed_act : TimedAct). timed_act.cycle ≤ draft.last) draft.script
