-- The fields of IEC 61162-1: the body of a line, between `$` and `*`, is parted by commas into the
-- address field and the data fields.
use Rattle.std.specs.Prelude.{ℕ, ◌-◌, List, [], ◌==◌, Bool, length, drop, slice_index_or, slice_range}
use Rattle.std.specs.List.{slice_split}

abbrev pub is_comma : ℕ → Bool
is_comma byte = byte == 44

-- what is between the first byte and the last three
unfoldable pub body : List ℕ → List ℕ
body line = slice_range line 1 (length line - 3)

-- the parts between commas, a null field as an empty one
unfoldable pub parts : List ℕ → List (List ℕ)
parts text = slice_split is_comma text

-- the address field: what comes before the first comma
unfoldable pub address : List ℕ → List ℕ
address line = slice_index_or (parts (body line)) 0 []

-- the data fields, in their order
unfoldable pub fields : List ℕ → List (List ℕ)
fields line = drop 1 (parts (body line))
