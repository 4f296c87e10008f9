-- Bytes as hexadecimal text: two digits a byte, in lower case, the upper four bits first.
use Rattle.std.specs.Prelude.{ℕ, ◌+◌, ◌-◌, ◌*◌, ◌/◌, ◌%◌, nat_lt, nat_le, Bool, ◌&&◌, ◌||◌, if◌then◌else◌, List, [], ◌∷◌}

-- a digit is one of 0 to 9 and a to f
abbrev pub is_lower_digit : ℕ → Bool
is_lower_digit c = (nat_le 48 c && nat_le c 57) || (nat_le 97 c && nat_le c 102)

-- what a digit counts
abbrev pub digit_value : ℕ → ℕ
digit_value c = if nat_le c 57 then c - 48 else c - 87

-- the bytes of pairs of digits; half a pair at the end gives none
abbrev pub paired : List ℕ → List ℕ
paired (high ∷ low ∷ digits) = (16 * digit_value high + digit_value low) ∷ paired digits
paired digits = []

-- the digit of a number below 16
abbrev pub lower_digit : ℕ → ℕ
lower_digit n = if nat_lt n 10 then 48 + n else 87 + n

-- the text of bytes
abbrev pub hexadecimal : List ℕ → List ℕ
hexadecimal [] = []
hexadecimal (byte ∷ bytes) = lower_digit (byte / 16) ∷ lower_digit (byte % 16) ∷ hexadecimal bytes
