-- As much of a file as its limit lets be read.
use Rattle.std.specs.Prelude.{ℕ, Bool, nat_lt, List, length, take}
use Rattle.dp_shell.specs.declared.reading.FilePart.{FilePart}

-- a text up to a limit, and whether there is more
pub record Prefix : Type 0 where
  pub text : List ℕ
  pub goes_on : Bool

abbrev pub prefix_of : ℕ → List ℕ → Prefix
prefix_of limit text = record { text = take limit text; goes_on = nat_lt limit (length text) }

-- a file that was read
abbrev pub prefix_read : FilePart → Prefix
prefix_read w = record { text = w.text.items; goes_on = w.is_cut }
