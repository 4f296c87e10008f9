-- A file that is kept open between reads.
use Rattle.std.specs.Prelude.{◌≡◌, ℕ, ◌+◌, ◌^◌, ◌<◌, ◌==◌, ◌&&◌, nat_lt, List, length, take, Option, Some, None, if◌then◌else◌}
use Rattle.std.specs.Io.KnownBytes.{Consumes, IsAtEnd}
use Rattle.dp_shell.specs.declared.file_shelf.KeptFile.{KeptFile}

-- the file that is kept, where it is the one of this place and its next read is at this offset
abbrev pub file_at : {F : Type 0} → Option (KeptFile F) → ℕ → ℕ → Option F
file_at None place from = None
file_at (Some kept) place from =
    if (kept.place == place) && (kept.next == from) then Some kept.file else None

-- the place of the file that is kept, and the offset of its next read
abbrev pub next_read : {F : Type 0} → Option (KeptFile F) → Option (ℕ × ℕ)
next_read None = None
next_read (Some kept) = Some (kept.place, kept.next)

-- the same after so many bytes were read at an offset: a file is kept where its place is below that
-- many
abbrev pub next_read_after : ℕ → ℕ → ℕ → ℕ → Option (ℕ × ℕ)
next_read_after apart place from count =
    if nat_lt place apart && nat_lt (from + count) (2 ^ 64) then Some (place, from + count) else None

-- what a file has left, where that is known, loses the first n bytes of a buffer, which it gave; with
-- room for any it gave none only at its end
abbrev pub GaveFront : Option (List ℕ) → Option (List ℕ) → ℕ → List ℕ → Type 0
GaveFront before after n buffer =
    Consumes before after (take n buffer) × (n ≡ 0 → 0 < length buffer → IsAtEnd after)
