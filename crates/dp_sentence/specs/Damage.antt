-- What is wrong with a line that is no sentence.
use Rattle.std.specs.Prelude.{◌≡◌, ◌≢◌, ℕ, ◌<◌, List, Bool, ◌==◌, ◌&&◌, ◌||◌, nat_lt, if◌then◌else◌, Option, Some, None, length, slice_index, position}
use Rattle.std.specs.Option.{option_or}
use Rattle.dp_sentence.specs.Checksum.{checksum, has_checksum_field, said}
use Rattle.dp_sentence.specs.Fields.{body, fields}
use Rattle.dp_sentence.specs.Sentence.{IsShort, Starts, IsAllPrintable, HasChecksumField, SaysChecksum}
use Rattle.dp_sentence.specs.declared.Damage.{Damage}
use Rattle.dp_sentence.specs.declared.Damage.TheVariants.{TooLong, NoStart, BadByte, NoSum, BadSum, TooManyFields}

-- a byte that no sentence has
abbrev pub is_bad : ℕ → Bool
is_bad byte = nat_lt byte 32 || nat_lt 126 byte

-- each damage: what the checks before its own ask for holds, and what its own asks for does not
abbrev pub IsDamagedBy : List ℕ → Damage → Type 0
IsDamagedBy line (TooLong n) = (160 < length line) × (n ≡ length line)
IsDamagedBy line NoStart = IsShort line × ¬ (Starts line)
IsDamagedBy line (BadByte place) = IsShort line × Starts line × (position is_bad line ≡ Some place)
IsDamagedBy line NoSum =
    IsShort line × Starts line × IsAllPrintable line × ¬ (HasChecksumField line)
IsDamagedBy line (BadSum digits sum) =
    IsShort line × Starts line × IsAllPrintable line × HasChecksumField line
    × (digits ≡ said line) × (sum ≡ checksum (body line)) × (digits ≢ sum)
IsDamagedBy line TooManyFields =
    IsShort line × Starts line × IsAllPrintable line × HasChecksumField line × SaysChecksum line
    × (24 < length (fields line))

abbrev pub too_long : List ℕ → Option Damage
too_long line = if nat_lt 160 (length line) then Some (TooLong (length line)) else None

abbrev pub starts : List ℕ → Bool
starts line = nat_lt 0 (length line) && slice_index line 0 == 36

abbrev pub no_start : List ℕ → Option Damage
no_start line = if starts line then None else Some NoStart

abbrev pub bad_byte : Option ℕ → Option Damage
bad_byte None = None
bad_byte (Some place) = Some (BadByte place)

abbrev pub no_sum : List ℕ → Option Damage
no_sum line = if has_checksum_field line then None else Some NoSum

abbrev pub bad_sum : ℕ → ℕ → Option Damage
bad_sum digits sum = if digits == sum then None else Some (BadSum digits sum)

abbrev pub too_many_fields : List (List ℕ) → Option Damage
too_many_fields fields = if nat_lt 24 (length fields) then Some TooManyFields else None

-- the first damage of the first five kinds
unfoldable pub damage_but_fields : List ℕ → Option Damage
damage_but_fields line =
    option_or (too_long line)
    (option_or (no_start line)
    (option_or (bad_byte (position is_bad line))
    (option_or (no_sum line) (bad_sum (said line) (checksum (body line))))))

-- the first damage of a line, none for a sentence
unfoldable pub damage : List ℕ → Option Damage
damage line = option_or (damage_but_fields line) (too_many_fields (fields line))
