-- What a run of a command answers, writes and reads.
use Rattle.std.specs.Prelude.{◌≡◌, ◌⊎◌, ℕ, Bool, List, [], Option, IfSome, IsNone, Result}
use Rattle.dp_shell.specs.Faults.{Rose}
use Rattle.dp_shell.specs.Texts.{Files}
use Rattle.dp_app.specs.declared.fault.Fault.{Fault}
use Rattle.dp_app.specs.declared.fault.File.{File}
use Rattle.dp_app.specs.declared.status.Status.{Status}
use Rattle.dp_app.specs.declared.status.Status.TheVariants as status
use Rattle.dp_app.specs.Causes.{ReadFailed, ReadsAmong}
use Rattle.dp_app.specs.Complete.{AsksNoFile}
use Rattle.dp_app.specs.Outcome.{Asks, Task, outcome_of, pieces_in}
use Rattle.dp_app.specs.Status.{IsOfInputs}
use Rattle.dp_app.specs.Words.{Command, files_read}
use Rattle.dp_app.specs.Written.{EndsAtRead, HasWritten, IsAnnounced, NoReadFailed}

pub record Runs {S T : Type 0} (texts : S → Option Files) (names : S → List ℕ → Bool)
    (numbers : S → List ℕ → ℕ) (taken : T → Option (List ℕ)) (troubles : T → ℕ)
    (c : Option Command) (old new : S) (before after : T) (s : Status) : Type 0 where
  -- where the texts are told: a status that words and files give is that of what they ask for
  pub answers : IsOfInputs s → IfSome (texts old) (λ told. (x : Result Task Fault)
      → Asks c told x → s ≡ (outcome_of x).status)
  -- and what was written goes by the status
  pub written : IfSome (texts old) (λ told. (x : Result Task Fault) → Asks c told x → HasWritten
      (ReadFailed (texts old) (numbers old) (numbers new) (files_read c))
      (pieces_in x) (outcome_of x).text s (taken before) (taken after))
  -- a status that is no end of all is announced
  pub announced : IsAnnounced s (taken before) (taken after)
  -- Usage comes where the words are no command, but for a failed write and want of memory
  pub usage : s ≡ status.Usage → IsNone c
  pub no_command : IsNone c
      → (s ≡ status.Usage) ⊎ (s ≡ status.WriteFault) ⊎ (s ≡ status.Memory)
  -- a fault of reading or writing was counted
  pub read : s ≡ status.ReadFault → (file : File)
      × ReadFailed (texts old) (numbers old) (numbers new) (files_read c) file
      × (x : Result Task Fault) × EndsAtRead (pieces_in x) file (taken before) (taken after)
  pub write : s ≡ status.WriteFault → Rose (troubles before) (troubles after)
  -- what needs no file goes by no text
  pub unread : (x : Result Task Fault) → AsksNoFile c x
      → (IsOfInputs s → s ≡ (outcome_of x).status)
      × HasWritten NoReadFailed [] (outcome_of x).text s (taken before) (taken after)
  -- of the shelf only counts change, of the command's files
  pub keeps : ReadsAmong texts names numbers (files_read c) old new
