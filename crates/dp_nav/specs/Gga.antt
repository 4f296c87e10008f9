-- The fields of a GGA sentence of IEC 61162-1, in the order in which they are checked.
use Rattle.std.specs.Prelude.{ℕ, ◌+◌, ◌*◌, ◌^◌, List, [], ◌∷◌, Bool, true, false, ◌==◌, ◌&&◌, ◌||◌, nat_lt, nat_le, if◌then◌else◌, length, take, drop, ℤ, pos, neg_ℤ, Option, Some, None, Result, Ok}
use Rattle.dp_nav.specs.Fields.{◌>>=◌, or_bad, field, valid_of}
use Rattle.dp_nav.specs.Decimals.{whole, decimals, is_decimal, number, kept}
use Rattle.dp_nav.specs.declared.gga.Coordinate.{Coordinate}
use Rattle.dp_nav.specs.declared.gga.Coordinate.TheVariants.{Latitude, Longitude}
use Rattle.dp_nav.specs.declared.reading.Reading.{Reading}
use Rattle.dp_nav.specs.declared.reading.Reading.TheVariants as reading
use Rattle.dp_nav.specs.declared.reading.Skip.{Skip}

-- whether a quality indicator is that of a fix: 1 to 5; or, of 0, 6, 7 and 8, of none
abbrev pub is_fix_of : List ℕ → Option Bool
is_fix_of (digit ∷ []) =
    if nat_le 49 digit && nat_le digit 53 then Some true
    else if digit == 48 || nat_le 54 digit && nat_le digit 56 then Some false
    else None
is_fix_of text = None

abbrev pub quality_of : List (List ℕ) → Result (Unit {0}) Skip
quality_of fields = do
  text ← field 6 fields
  is_fix ← or_bad 6 (is_fix_of text)
  valid_of is_fix

-- how many digits the degrees have
abbrev pub degree_digits : Coordinate → ℕ
degree_digits Latitude = 2
degree_digits Longitude = 3

-- the last degree
abbrev pub most_degrees : Coordinate → ℕ
most_degrees Latitude = 90
most_degrees Longitude = 180

-- `N` and `E`
abbrev pub positive_letter : Coordinate → ℕ
positive_letter Latitude = 78
positive_letter Longitude = 69

-- `S` and `W`
abbrev pub negative_letter : Coordinate → ℕ
negative_letter Latitude = 83
negative_letter Longitude = 87

-- the digits of the minutes before the point
abbrev pub minutes : Coordinate → List ℕ → ℕ
minutes kind text = number (drop (degree_digits kind) (whole text))

-- degrees and minutes as a whole number of 10^-7 minute
abbrev pub angle : Coordinate → List ℕ → ℕ
angle kind text =
    (number (take (degree_digits kind) (whole text)) * 60 + minutes kind text) * 10 ^ 7 + kept 7
    (decimals text)

-- `ddmm.mm..` or `dddmm.mm..` with minutes below 60, at most 90 or 180 degrees
unfoldable pub angle_of : Coordinate → List ℕ → Option ℕ
angle_of kind text =
    if is_decimal text && (length (whole text) == degree_digits kind + 2
    && (nat_lt (minutes kind text) 60 && nat_le (angle kind text) (most_degrees kind * 600000000)))
    then Some (angle kind text) else None

-- south and west are negative
abbrev pub is_negative_of : Coordinate → List ℕ → Option Bool
is_negative_of kind (letter ∷ []) =
    if letter == positive_letter kind then Some false
    else if letter == negative_letter kind then Some true else None
is_negative_of kind text = None

abbrev pub signed : Bool → ℕ → ℤ
signed false n = pos n
signed true n = neg_ℤ (pos n)

-- the angle of field k with the sign of the field after it
unfoldable pub coordinate_of : Coordinate → ℕ → List (List ℕ) → Result ℤ Skip
coordinate_of kind k fields = do
  text ← field k fields
  angle ← or_bad k (angle_of kind text)
  letter ← field (k + 1) fields
  is_negative ← or_bad (k + 1) (is_negative_of kind letter)
  Ok (signed is_negative angle)

-- the fix of the fields
unfoldable pub fix_of : List (List ℕ) → Result Reading Skip
fix_of fields = do
  valid ← quality_of fields
  lat ← coordinate_of Latitude 2 fields
  lon ← coordinate_of Longitude 4 fields
  Ok (reading.Fix lat lon)
