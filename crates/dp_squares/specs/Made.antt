-- The certificate that is made for gains from a form: its squares and its roots.
use Rattle.std.specs.Prelude.{ℕ, ◌^◌, ℤ, pos, int_le, List, [], ◌∷◌, if◌then◌else◌}
use Rattle.dp_cert.specs.Judged.{input_square_by, judged_by, round_square_by}
use Rattle.dp_cert.specs.declared.judged.Which.{Which}
use Rattle.dp_cert.specs.declared.judged.Which.TheVariants.{Vertex, Output, Span}
use Rattle.dp_fixed.specs.Roots.{root_of}
use Rattle.dp_form.specs.Made.{made_of}
use Rattle.dp_form.specs.declared.Squares.{Squares}
use Rattle.dp_plant.specs.declared.cert.Cert.{Cert}
use Rattle.dp_plant.specs.declared.cert.Lists.{Lists}
use Rattle.dp_plant.specs.declared.cert.Parts.{Parts}
use Rattle.dp_plant.specs.declared.cert.Parts.TheVariants.{Three, Five}
use Rattle.dp_plant.specs.declared.gains.Gains.{Gains}

-- the squares that are made for a matrix of the certificate
abbrev pub list_for : {n : ℕ} → Gains → Cert → Which → Squares n
list_for {n} g c which = record {
  list = record { items = made_of {n = n} (judged_by g c c.parts which) };
}

-- those of an axis' vertices, of its outputs, and of the coordinates
abbrev pub vertex_lists : {n : ℕ} → Gains → Cert → ℕ → List (Squares n)
vertex_lists g c axis =
    list_for g c (Vertex axis 0) ∷ list_for g c (Vertex axis 1) ∷ list_for g c (Vertex axis 2) ∷ []

abbrev pub output_lists : {n : ℕ} → Gains → Cert → ℕ → List (Squares n)
output_lists g c axis = list_for g c (Output axis 0) ∷ list_for g c (Output axis 1) ∷ []

abbrev pub three_spans : Gains → Cert → List (Squares 3)
three_spans g c = list_for g c (Span 0) ∷ list_for g c (Span 1) ∷ list_for g c (Span 2) ∷ []

abbrev pub five_spans : Gains → Cert → List (Squares 5)
five_spans g c =
    list_for g c (Span 0)
    ∷ list_for g c (Span 1)
    ∷ list_for g c (Span 2)
    ∷ list_for g c (Span 3)
    ∷ list_for g c (Span 4)
    ∷ []

-- the file's form, with the squares that show it, and these lists
abbrev pub with_lists : {n : ℕ} → Lists n → List (List (Squares n)) → List (List (Squares n))
    → List (Squares n) → Lists n
with_lists l vertex output spans = record {
  p = l.p;
  span = l.span;
  form = l.form;
  vertex = vertex;
  output = output;
  spans = spans;
  symmetric = l.symmetric;
}

-- every list but the form's made
abbrev pub made_lists : {n : ℕ} → Gains → Cert → List (Squares n) → Lists n → Lists n
made_lists g c spans l =
    with_lists l (vertex_lists g c 0 ∷ vertex_lists g c 1 ∷ [])
    (output_lists g c 0 ∷ output_lists g c 1 ∷ []) spans

abbrev pub made_parts : Gains → Cert → Parts → Parts
made_parts g c (Three l) = Three (made_lists g c (three_spans g c) l)
made_parts g c (Five l) = Five (made_lists g c (five_spans g c) l)

-- the least root, 0 of a number below 0; where the number is past 2^100, what the file has
abbrev pub made_root : ℤ → ℤ → ℤ
made_root n kept = if int_le n (pos (2 ^ 100)) then root_of n else kept

-- rate, demands and form are the file's
unfoldable pub made_cert : Gains → Cert → Cert
made_cert g c = record {
  rho = c.rho;
  b = made_root (input_square_by g c.parts) c.b;
  r = made_root (round_square_by g c.parts) c.r;
  g = c.g;
  parts = made_parts g c c.parts;
}
