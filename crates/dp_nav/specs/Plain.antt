-- Plain forms: a place in the local frame, and the state of a thruster group.
use Rattle.std.specs.Prelude.{ℕ, ◌*ℤ◌, List, [], ◌∷◌, Bool, true, false, ◌==◌, ◌||◌, nat_lt, nat_le, if◌then◌else◌, length, ℤ, pos, unsigned_abs, Option, Some, None, Result, Ok, Err, codes}
use Rattle.std.specs.Borrow.{Bor}
use Rattle.std.specs.Str.{bytes_eq}
use Rattle.dp_text.specs.Numbers.{number_of}
use Rattle.dp_text.specs.Parts.{parts_of, is_space}
use Rattle.dp_nav.specs.Fields.{◌>>=◌, or_bad, field}
use Rattle.dp_nav.specs.declared.reading.Reading.{Reading}
use Rattle.dp_nav.specs.declared.reading.Reading.TheVariants as reading
use Rattle.dp_nav.specs.declared.reading.Skip.{Skip}
use Rattle.dp_nav.specs.declared.reading.Skip.TheVariants.{OtherFormatter, BadField}
use Rattle.dp_nav.specs.declared.reading.WireKind.{WireKind}
use Rattle.dp_nav.specs.declared.reading.WireKind.TheVariants as kind

-- the text begins with `L` or `G`
abbrev pub is_plain : List ℕ → Bool
is_plain [] = false
is_plain (letter ∷ rest) = letter == 76 || letter == 71

-- the parts of a text, if there is one
abbrev pub parts_in : Option (Bor (List ℕ)) → List (List ℕ)
parts_in None = []
parts_in (Some text) = parts_of text.now

-- the parts after a space, none where another byte comes first
abbrev pub parts_behind : List ℕ → List (List ℕ)
parts_behind [] = []
parts_behind (byte ∷ rest) = if is_space byte then parts_of rest else []

-- millimetres, at most 8796093 from zero, in nanometres
abbrev pub nanometres_of : List ℕ → Option ℤ
nanometres_of text = near (number_of text)
  where
    near : Option ℤ → Option ℤ
    near None = None
    near (Some mm) = if nat_le (unsigned_abs mm) 8796093 then Some (mm *ℤ pos 1000000) else None

abbrev pub length_of : ℕ → List (List ℕ) → Result ℤ Skip
length_of k parts = do
  text ← field k parts
  or_bad k (nanometres_of text)

-- NORTH EAST, and nothing more
unfoldable pub local_of : List (List ℕ) → Result Reading Skip
local_of parts = do
  north ← length_of 1 parts
  east ← length_of 2 parts
  if nat_lt 2 (length parts) then Err (BadField 3) else Ok (reading.Local north east)

-- `1` ready, `0` lost
abbrev pub group_of : List ℕ → Result Reading Skip
group_of text =
    if bytes_eq text (codes "G 1") then Ok (reading.Group true)
    else if bytes_eq text (codes "G 0") then Ok (reading.Group false)
    else Err (BadField 1)

-- `L NORTH EAST` on a position wire, `G 1` or `G 0` on that of a group
unfoldable pub plain_of : WireKind → List ℕ → Result Reading Skip
plain_of kind.Position (letter ∷ rest) =
    if letter == 76 then local_of (parts_behind rest) else Err OtherFormatter
plain_of kind.Group (letter ∷ rest) =
    if letter == 71 then group_of (letter ∷ rest) else Err OtherFormatter
plain_of _ _ = Err OtherFormatter
