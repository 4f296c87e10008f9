-- What reads of one name leave of a shelf.
use Rattle.std.specs.Prelude.{◌≡◌, ℕ, Bool, List, Option}
use Rattle.dp_shell.specs.Faults.{NoneFalls, OthersStay}
use Rattle.dp_shell.specs.Texts.{Files}

-- texts and names stay, no number falls, and each other name that is counted apart keeps its own
pub record ReadsOnly {S : Type 0} (texts : S → Option Files) (names : S → List ℕ → Bool)
    (numbers : S → List ℕ → ℕ) (name : List ℕ) (old new : S) : Type 0 where
  pub files : texts new ≡ texts old
  pub apart : names new ≡ names old
  pub others : OthersStay (names old) name (numbers old) (numbers new)
  pub none_falls : NoneFalls (numbers old) (numbers new)
