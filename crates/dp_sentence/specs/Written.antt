-- A sentence written out, and what its line is by its parts.
use Rattle.std.specs.Prelude.{◌≡◌, ℕ, ◌+◌, ◌-◌, ◌/◌, ◌%◌, List, [], ◌∷◌, ◌++◌, if◌then◌else◌, nat_lt, length, drop, take}
use Rattle.std.specs.List.{join_with_byte}
use Rattle.std.specs.Str.{str_to_ascii_uppercase}
use Rattle.dp_sentence.specs.Checksum.{checksum}

-- the address and the data fields, joined by commas
abbrev pub body_of : List ℕ → List ℕ → List (List ℕ) → List ℕ
body_of talker formatter fields = join_with_byte 44 ((talker ++ formatter) ∷ fields)

-- `$`, talker and formatter, each data field after its comma, and the last three bytes: together
-- they are the line
abbrev pub StandsInOrder : List ℕ → List ℕ → List ℕ → List (List ℕ) → Type 0
StandsInOrder line talker formatter fields =
    line ≡ 36 ∷ (body_of talker formatter fields ++ drop (length line - 3) line)

-- the hexadecimal digit of a number below 16, in upper case
abbrev pub digit_of : ℕ → ℕ
digit_of n = if nat_lt n 10 then 48 + n else 55 + n

-- `$`, a body, `*` and the two digits of the body's checksum
unfoldable pub closed : List ℕ → List ℕ
closed body = 36 ∷ (body ++ 42 ∷ digit_of (checksum body / 16) ∷ digit_of (checksum body % 16) ∷ [])

-- a sentence of these parts
unfoldable pub written : List ℕ → List ℕ → List (List ℕ) → List ℕ
written talker formatter fields = closed (body_of talker formatter fields)

-- the same bytes, but for the case of the last two
pub record IsSameButForCase (text line : List ℕ) : Type 0 where
  pub prefix : take (length text - 2) text ≡ take (length line - 2) line
  pub digits : str_to_ascii_uppercase (drop (length text - 2) text)
      ≡ str_to_ascii_uppercase (drop (length line - 2) line)
