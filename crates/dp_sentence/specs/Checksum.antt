-- The checksum field of IEC 61162-1: `*` and two hexadecimal digits at the end of a line, which say
-- the exclusive-or of the bytes between `$` and `*`.
use Rattle.std.specs.Prelude.{ℕ, ◌+◌, ◌-◌, ◌*◌, List, Bool, ◌==◌, ◌&&◌, nat_le, length, slice_index, fold, bit_xor}
use Rattle.std.specs.Char.{is_ascii_hexdigit, digit_value}

-- the exclusive-or of all these bytes
unfoldable pub checksum : List ℕ → ℕ
checksum bytes = fold bit_xor 0 bytes

-- after one byte at least, the last three are `*` and two hexadecimal digits of either case
unfoldable pub has_checksum_field : List ℕ → Bool
has_checksum_field line =
    nat_le 4 (length line) && (slice_index line (length line - 3) == 42
    && (is_ascii_hexdigit (slice_index line (length line - 2))
    && is_ascii_hexdigit (slice_index line (length line - 1))))

-- the number of the two digits
unfoldable pub said : List ℕ → ℕ
said line =
    digit_value (slice_index line (length line - 2)) * 16 + digit_value
    (slice_index line (length line - 1))
