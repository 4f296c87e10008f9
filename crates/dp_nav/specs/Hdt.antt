-- The fields of an HDT sentence of IEC 61162-1, in the order in which they are checked.
use Rattle.std.specs.Prelude.{ℕ, List, [], ◌∷◌, ◌==◌, if◌then◌else◌, Option, Some, None, Result, Ok}
use Rattle.dp_nav.specs.Fields.{◌>>=◌, or_bad, field}
use Rattle.dp_nav.specs.Turns.{turn_in}
use Rattle.dp_nav.specs.declared.reading.Reading.{Reading}
use Rattle.dp_nav.specs.declared.reading.Reading.TheVariants as reading
use Rattle.dp_nav.specs.declared.reading.Skip.{Skip}

-- `T`, for true
abbrev pub true_of : List ℕ → Option (Unit {0})
true_of (letter ∷ []) = if letter == 84 then Some tt else None
true_of text = None

-- the heading of the fields
unfoldable pub hdt_of : List (List ℕ) → Result Reading Skip
hdt_of fields = do
  heading ← turn_in 1 fields
  letter ← field 2 fields
  is ← or_bad 2 (true_of letter)
  Ok (reading.Heading heading)
