-- A certificate as the plant file has it: its keys with their values, and their lines.
use Rattle.std.specs.Prelude.{ℕ, ℤ, List, [], ◌∷◌, ◌++◌, codes, map, slice_index_or}
use Rattle.std.specs.Fmt.{signed_decimal}
use Rattle.std.specs.List.{flat_map}
use Rattle.dp_form.specs.Vectors.{entry}
use Rattle.dp_form.specs.declared.Squares.{Squares}
use Rattle.dp_plant.specs.PlantFile.{square_rows}
use Rattle.dp_plant.specs.declared.cert.Cert.{Cert}
use Rattle.dp_plant.specs.declared.cert.Lists.{Lists}
use Rattle.dp_plant.specs.declared.cert.Parts.{Parts}
use Rattle.dp_plant.specs.declared.cert.Parts.TheVariants.{Three, Five}

-- ---- values: a number, an array of numbers, an array of such arrays
pub data Value : Type 0 where
  number : ℤ → Value
  numbers : List ℤ → Value
  rows : List (List ℤ) → Value

-- a part of an array that isn't its first: after a comma and a space
abbrev pub later : {X : Type 0} → (X → List ℕ) → X → List ℕ
later text x = codes ", " ++ text x

-- an array, by the text of each of its parts
abbrev pub array_text : {X : Type 0} → (X → List ℕ) → List X → List ℕ
array_text text [] = codes "[]"
array_text text (x ∷ xs) = codes "[" ++ (text x ++ (flat_map (later text) xs ++ codes "]"))

abbrev pub numbers_text : List ℤ → List ℕ
numbers_text zs = array_text signed_decimal zs

abbrev pub value_text : Value → List ℕ
value_text (number z) = signed_decimal z
value_text (numbers zs) = numbers_text zs
value_text (rows zss) = array_text numbers_text zss

-- ---- keys, in the file's order
-- a key, and its value
abbrev pub Row : Type 0
Row = List ℕ × Value

-- the upper half of the form's matrix, row by row
abbrev pub upper_three : List (List ℤ) → List ℤ
upper_three p =
    entry p 0 0 ∷ entry p 0 1 ∷ entry p 0 2 ∷ entry p 1 1 ∷ entry p 1 2 ∷ entry p 2 2 ∷ []

abbrev pub upper_five : List (List ℤ) → List ℤ
upper_five p =
    entry p 0 0 ∷ entry p 0 1 ∷ entry p 0 2 ∷ entry p 0 3 ∷ entry p 0 4
    ∷ entry p 1 1 ∷ entry p 1 2 ∷ entry p 1 3 ∷ entry p 1 4
    ∷ entry p 2 2 ∷ entry p 2 3 ∷ entry p 2 4
    ∷ entry p 3 3 ∷ entry p 3 4 ∷ entry p 4 4 ∷ []

-- the list of squares at a place of an array, and of an array of arrays
abbrev pub list_at : {n : ℕ} → List (Squares n) → ℕ → Value
list_at ws i = rows (slice_index_or (map square_rows ws) i [])

abbrev pub axis_list_at : {n : ℕ} → List (List (Squares n)) → ℕ → ℕ → Value
axis_list_at ws axis i = list_at (slice_index_or ws axis []) i

unfoldable pub step_rows : {n : ℕ} → Lists n → List Row
step_rows l =
    (codes "form", rows (square_rows l.form))
    ∷ (codes "surge0", axis_list_at l.vertex 0 0)
    ∷ (codes "surge1", axis_list_at l.vertex 0 1)
    ∷ (codes "surge2", axis_list_at l.vertex 0 2)
    ∷ (codes "sway0", axis_list_at l.vertex 1 0)
    ∷ (codes "sway1", axis_list_at l.vertex 1 1)
    ∷ (codes "sway2", axis_list_at l.vertex 1 2)
    ∷ (codes "out_surge0", axis_list_at l.output 0 0)
    ∷ (codes "out_surge1", axis_list_at l.output 0 1)
    ∷ (codes "out_sway0", axis_list_at l.output 1 0)
    ∷ (codes "out_sway1", axis_list_at l.output 1 1)
    ∷ []

unfoldable pub span_rows : {n : ℕ} → Lists n → List Row
span_rows l =
    (codes "span0", list_at l.spans 0)
    ∷ (codes "span1", list_at l.spans 1)
    ∷ (codes "span2", list_at l.spans 2)
    ∷ []

unfoldable pub wave_span_rows : Lists 5 → List Row
wave_span_rows l =
    (codes "span3", list_at l.spans 3) ∷ (codes "span4", list_at l.spans 4) ∷ []

abbrev pub form_rows : {n : ℕ} → List ℤ → Lists n → List Row
form_rows upper l = (codes "p", numbers upper) ∷ (codes "span", numbers l.span) ∷ []

abbrev pub part_rows : Parts → List Row
part_rows (Three l) = form_rows (upper_three l.p.at) l ++ (step_rows l ++ span_rows l)
part_rows (Five l) =
    form_rows (upper_five l.p.at) l ++ (step_rows l ++ (span_rows l ++ wave_span_rows l))

unfoldable pub number_rows : Cert → List Row
number_rows c =
    (codes "rho", number c.rho)
    ∷ (codes "b", number c.b)
    ∷ (codes "r", number c.r)
    ∷ (codes "g", numbers c.g)
    ∷ []

unfoldable pub cert_rows : Cert → List Row
cert_rows c = number_rows c ++ part_rows c.parts

-- ---- lines
abbrev pub row_line : Row → List ℕ
row_line row = row.0 ++ (codes " = " ++ (value_text row.1 ++ codes "\n"))

-- the section, line by line
unfoldable pub cert_text : Cert → List (List ℕ)
cert_text c = codes "[cert]\n" ∷ map row_line (cert_rows c)

-- line i of some rows, nothing past their end
abbrev pub line_at : List Row → ℕ → List ℕ
line_at rs i = slice_index_or (map row_line rs) i []
