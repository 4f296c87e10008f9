-- The sentence structure of IEC 61162-1, as conditions on a whole line.
use Rattle.std.specs.Prelude.{◌≡◌, ℕ, ◌≤◌, List, Some, All, length, slice_get, IsTrue}
use Rattle.dp_sentence.specs.Checksum.{checksum, has_checksum_field, said}
use Rattle.dp_sentence.specs.Fields.{body, fields}

-- a character that a sentence may have
abbrev pub IsPrintable : ℕ → Type 0
IsPrintable byte = (32 ≤ byte) × (byte ≤ 126)

abbrev pub IsShort : List ℕ → Type 0
IsShort line = length line ≤ 160

-- the first byte is `$`
abbrev pub Starts : List ℕ → Type 0
Starts line = slice_get line 0 ≡ Some 36

abbrev pub IsAllPrintable : List ℕ → Type 0
IsAllPrintable line = All IsPrintable line

abbrev pub HasChecksumField : List ℕ → Type 0
HasChecksumField line = IsTrue (has_checksum_field line)

-- the digits say the exclusive-or of the body
abbrev pub SaysChecksum : List ℕ → Type 0
SaysChecksum line = said line ≡ checksum (body line)

-- a line that is a sentence
pub record IsSentence (line : List ℕ) : Type 0 where
  pub short : IsShort line
  pub start : Starts line
  pub printable : IsAllPrintable line
  pub checksum_field : HasChecksumField line
  pub sum : SaysChecksum line
  pub few : length (fields line) ≤ 24
