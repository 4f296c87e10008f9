-- Headings and the wind's angle, in hundredths of a degree.
use Rattle.std.specs.Prelude.{ℕ, ◌==◌, nat_lt, List, if◌then◌else◌, Option, Some, None, Result}
use Rattle.dp_nav.specs.Fields.{◌>>=◌, or_bad, field}
use Rattle.dp_nav.specs.Decimals.{scaled_of}
use Rattle.dp_nav.specs.declared.reading.Skip.{Skip}

-- below one turn, or one turn, which is 0
abbrev pub within_turn : Option ℕ → Option ℕ
within_turn None = None
within_turn (Some n) = if nat_lt n 36000 then Some n else if n == 36000 then Some 0 else None

-- a decimal in degrees, at most 360, of which two decimals are kept
abbrev pub turn_of : List ℕ → Option ℕ
turn_of text = within_turn (scaled_of 2 text)

-- the angle of field k
unfoldable pub turn_in : ℕ → List (List ℕ) → Result ℕ Skip
turn_in k fields = do
  text ← field k fields
  or_bad k (turn_of text)
