-- Places as the fields of a GGA sentence name them: by degrees, minutes and a letter.
use Rattle.std.specs.Prelude.{◌≡◌, ℕ, ◌+◌, ◌*◌, ◌^◌, ◌<◌, ◌≤◌, ◌⊎◌, List, [], ◌∷◌, ◌++◌, length, true, ℤ, pos, neg_ℤ, Ok}
use Rattle.std.specs.List.{list_all}
use Rattle.std.specs.Char.{is_ascii_digit}
use Rattle.dp_text.specs.Laws.{place_value}
use Rattle.dp_nav.specs.Gga.{degree_digits, fix_of, most_degrees, negative_letter, positive_letter}
use Rattle.dp_nav.specs.declared.gga.Coordinate.{Coordinate}
use Rattle.dp_nav.specs.declared.gga.Coordinate.TheVariants.{Latitude, Longitude}
use Rattle.dp_nav.specs.declared.reading.Reading.{Reading}
use Rattle.dp_nav.specs.declared.reading.Reading.TheVariants.{Fix}

-- digits as they stand, or with a point and digits after them
abbrev pub IsPointed : List ℕ → List ℕ → List ℕ → Type 0
IsPointed text digits decimals =
    ((text ≡ digits) × (decimals ≡ [])) ⊎ (text ≡ digits ++ 46 ∷ decimals)

-- whole minutes and k decimals of this value come to n times 10^-7 minute: what the decimals are
-- worth is rounded down
pub record ComesTo (whole k value n : ℕ) : Type 0 where
  pub part : ℕ
  pub sum : n ≡ whole * 10 ^ 7 + part
  pub least : part * 10 ^ k ≤ value * 10 ^ 7
  pub most : value * 10 ^ 7 < (part + 1) * 10 ^ k

-- a text writes an angle of n times 10^-7 minute: two or three digits of degrees, two digits of
-- minutes, which are below 60, and perhaps a point and decimals of the minute
pub record WritesAngle (kind : Coordinate) (text : List ℕ) (n : ℕ) : Type 0 where
  pub degrees : List ℕ
  pub minutes : List ℕ
  pub decimals : List ℕ
  pub joined : IsPointed text (degrees ++ minutes) decimals
  pub whole : list_all is_ascii_digit (degrees ++ minutes) ≡ true
  pub part : list_all is_ascii_digit decimals ≡ true
  pub degree_count : length degrees ≡ degree_digits kind
  pub minute_count : length minutes ≡ 2
  pub few : length degrees + length minutes + length decimals ≤ 20
  pub below : place_value minutes < 60
  pub value : ComesTo (place_value degrees * 60 + place_value minutes) (length decimals)
      (place_value decimals) n
  pub within : n ≤ most_degrees kind * 600000000

-- the sign is that of a letter: `N` or `E`, `S` or `W`
abbrev pub HasSign : Coordinate → List ℕ → ℕ → ℤ → Type 0
HasSign kind letter n x =
    ((letter ≡ positive_letter kind ∷ []) × (x ≡ pos n))
    ⊎ ((letter ≡ negative_letter kind ∷ []) × (x ≡ neg_ℤ (pos n)))

-- an angle and a letter name a coordinate
pub record NamesCoordinate (kind : Coordinate) (text letter : List ℕ) (x : ℤ) : Type 0 where
  pub size : ℕ
  pub angle : WritesAngle kind text size
  pub sign : HasSign kind letter size x

-- fields name a place: latitude and longitude in fields 2 to 5, and a quality of 1 to 5 in field 6
pub record NamesPlace (fields : List (List ℕ)) (lat lon : ℤ) : Type 0 where
  pub time : List ℕ
  pub lat_text : List ℕ
  pub lat_letter : List ℕ
  pub lon_text : List ℕ
  pub lon_letter : List ℕ
  pub quality : ℕ
  pub more : List (List ℕ)
  pub all : fields
      ≡ time ∷ lat_text ∷ lat_letter ∷ lon_text ∷ lon_letter ∷ (quality ∷ []) ∷ more
  pub latitude : NamesCoordinate Latitude lat_text lat_letter lat
  pub longitude : NamesCoordinate Longitude lon_text lon_letter lon
  pub low : 49 ≤ quality
  pub high : quality ≤ 53

-- the fix that is read is the place that is named, and each place that is named is read
pub record FixIsNamed : Type 0 where
  pub written : (fields : List (List ℕ)) (fix : Reading) → fix_of fields ≡ Ok fix
      → (lat : ℤ) × (lon : ℤ) × (fix ≡ Fix lat lon) × NamesPlace fields lat lon
  pub read : (fields : List (List ℕ)) (lat lon : ℤ) → NamesPlace fields lat lon
      → fix_of fields ≡ Ok (Fix lat lon)
