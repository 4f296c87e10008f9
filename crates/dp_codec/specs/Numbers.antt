-- Numbers, the highest byte first; signed ones have eight bytes, in two's complement.
use Rattle.std.specs.Prelude.{ℕ, ℤ, neg_ℤ, List, take, drop, length, Ok, Err, nat_lt, nat_le, int_le, ◌&&◌, if◌then◌else◌}
use Rattle.std.specs.Int.{Width, w64, byte_len, from_be_bytes, to_be_bytes, cast_signed, cast_unsigned}
use Rattle.dp_codec.specs.Format.{Format, Read}

unfoldable pub unsigned_text : Width → ℕ → List ℕ
unsigned_text w n = to_be_bytes w n

unfoldable pub signed_text : ℤ → List ℕ
signed_text z = to_be_bytes w64 (cast_unsigned w64 z)

-- what stands in front
abbrev pub number_of : Width → List ℕ → ℕ
number_of w bytes = from_be_bytes w (take (byte_len w) bytes)

-- from lo up to but not including end
unfoldable pub unsigned_at : Width → ℕ → ℕ → List ℕ → Read ℕ
unsigned_at w lo end bytes =
    if nat_lt (length bytes) (byte_len w) then Err (length bytes)
    else (if nat_le lo (number_of w bytes) && nat_lt (number_of w bytes) end
    then Ok (number_of w bytes, drop (byte_len w) bytes)
    else Err (length bytes))

-- from lo to hi
unfoldable pub signed_at : ℤ → ℤ → List ℕ → Read ℤ
signed_at lo hi bytes =
    if nat_lt (length bytes) 8 then Err (length bytes)
    else (if int_le lo (cast_signed w64 (number_of w64 bytes))
    && int_le (cast_signed w64 (number_of w64 bytes)) hi
    then Ok (cast_signed w64 (number_of w64 bytes), drop 8 bytes)
    else Err (length bytes))

abbrev pub unsigned : Width → ℕ → ℕ → Format ℕ
unsigned w lo end = record { spell = unsigned_text w; read = unsigned_at w lo end }

abbrev pub signed : ℤ → ℤ → Format ℤ
signed lo hi = record { spell = signed_text; read = signed_at lo hi }

-- within a limit of zero
abbrev pub within : ℤ → Format ℤ
within limit = signed (neg_ℤ limit) limit
