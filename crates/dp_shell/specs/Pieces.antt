-- What comes next of a text that is read piece by piece, up to a limit.
use Rattle.std.specs.Prelude.{◌≡◌, ◌+◌, ◌<◌, ◌≤◌, ℕ, true, false, List, ◌++◌, take, Option}
use Rattle.dp_shell.specs.declared.pieces.Piece.{Piece}
use Rattle.dp_shell.specs.declared.pieces.Piece.TheVariants.{Bytes, End, Cut}
use Rattle.dp_shell.specs.Texts.{Files, ReadsPrefix, ReadsWhole}

-- a text that was read up to here goes on by a piece: bytes are more of it, at its end it was the
-- whole text, and where it is cut it was the text up to the limit
abbrev pub Continues : Option Files → List ℕ → ℕ → List ℕ → List ℕ → Piece → Type 0
Continues files name limit before block (Bytes count) =
    ReadsPrefix files name (before ++ take count block)
Continues files name limit before block End = ReadsWhole files name limit before false
Continues files name limit before block Cut = ReadsWhole files name limit before true

-- a piece has a byte at least where it has any, no more than there is room for and none past the
-- limit, and is cut nowhere else than there
abbrev pub IsPieceWithin : ℕ → ℕ → ℕ → Piece → Type 0
IsPieceWithin from limit room (Bytes count) =
    (0 < count) × (count ≤ room) × (from + count ≤ limit)
IsPieceWithin from limit room End = Unit {0}
IsPieceWithin from limit room Cut = from ≡ limit
