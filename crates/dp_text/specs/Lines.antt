-- The lines of a text.
use Rattle.std.specs.Prelude.{ℕ, ◌-◌, Bool, ◌||◌, ◌==◌, List, [], ◌∷◌, length, take, if◌then◌else◌, slice_index}
use Rattle.std.specs.List.{slice_split}

abbrev pub is_newline : ℕ → Bool
is_newline b = b == 10

-- a line without the carriage return before its end
abbrev pub stripped : List ℕ → List ℕ
stripped line =
    if slice_index line (length line - 1) == 13 then take (length line - 1) line else line

-- the pieces between line feeds are lines, a carriage return before a line feed dropped; the last
-- piece is a line as it stands,
-- unless it is empty or the text goes on
abbrev pub lines_of_pieces : Bool → List (List ℕ) → List (List ℕ)
lines_of_pieces goes_on [] = []
lines_of_pieces goes_on (x ∷ []) = if goes_on || (length x == 0) then [] else x ∷ []
lines_of_pieces goes_on (x ∷ y ∷ more) = stripped x ∷ lines_of_pieces goes_on (y ∷ more)

abbrev pub lines_of : Bool → List ℕ → List (List ℕ)
lines_of goes_on text = lines_of_pieces goes_on (slice_split is_newline text)
