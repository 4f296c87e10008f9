-- The fields of a THS sentence of IEC 61162-1, in the order in which they are checked.
use Rattle.std.specs.Prelude.{ℕ, List, [], ◌∷◌, Bool, true, false, ◌==◌, ◌||◌, if◌then◌else◌, Option, Some, None, Result, Ok}
use Rattle.dp_nav.specs.Fields.{◌>>=◌, or_bad, field, valid_of}
use Rattle.dp_nav.specs.Turns.{turn_in}
use Rattle.dp_nav.specs.declared.reading.Reading.{Reading}
use Rattle.dp_nav.specs.declared.reading.Reading.TheVariants as reading
use Rattle.dp_nav.specs.declared.reading.Skip.{Skip}

-- whether a mode is `A`, autonomous; or, of `E`, `M`, `S` and `V`, another one
abbrev pub is_autonomous_of : List ℕ → Option Bool
is_autonomous_of (letter ∷ []) =
    if letter == 65 then Some true
    else if letter == 69 || (letter == 77 || (letter == 83 || letter == 86)) then Some false
    else None
is_autonomous_of text = None

abbrev pub mode_of : List (List ℕ) → Result (Unit {0}) Skip
mode_of fields = do
  text ← field 2 fields
  is_autonomous ← or_bad 2 (is_autonomous_of text)
  valid_of is_autonomous

-- the heading of the fields
unfoldable pub ths_of : List (List ℕ) → Result Reading Skip
ths_of fields = do
  valid ← mode_of fields
  heading ← turn_in 1 fields
  Ok (reading.Heading heading)
