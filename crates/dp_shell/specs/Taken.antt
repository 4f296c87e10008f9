-- What the writes of whole texts leave in a sink.
use Rattle.std.specs.Prelude.{◌<◌, ℕ, List, ◌++◌, length, take, Option}
use Rattle.std.specs.Io.KnownBytes.{Appends}

-- a prefix of the text was taken, and not all of it
abbrev pub AppendsCut : Option (List ℕ) → Option (List ℕ) → List ℕ → Type 0
AppendsCut old new text = (n : ℕ) × (n < length text) × Appends old new (take n text)

-- a prefix of a text was taken, and then a line
pub record EndsWithLine (old new : Option (List ℕ)) (text line : List ℕ) : Type 0 where
  pub of_text : ℕ
  pub taken : Appends old new (take of_text text ++ line)

-- a prefix of a text was taken, and then a prefix of a line, and not all of it
pub record CutInLine (old new : Option (List ℕ)) (text line : List ℕ) : Type 0 where
  pub of_text : ℕ
  pub of_line : ℕ
  pub short : of_line < length line
  pub taken : Appends old new (take of_text text ++ take of_line line)
