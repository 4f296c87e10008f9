-- The matrices that a certificate's squares are to show, each with the list of squares that is to
-- show it, and the numbers under the certificate's roots.
use Rattle.std.specs.Prelude.{ℕ, zero, suc, ◌<◌, ℤ, pos, ◌*ℤ◌, List}
use Rattle.dp_form.specs.Form.{form}
use Rattle.dp_form.specs.declared.NotShown.{NotShown}
use Rattle.dp_form.specs.declared.Square.{Square}
use Rattle.dp_plant.specs.Vectors.{entry}
use Rattle.dp_plant.specs.declared.cert.Cert.{Cert}
use Rattle.dp_plant.specs.declared.cert.Lists.{Lists}
use Rattle.dp_plant.specs.declared.cert.Parts.{Parts}
use Rattle.dp_plant.specs.declared.cert.Parts.TheVariants.{Three, Five}
use Rattle.dp_plant.specs.declared.gains.Gains.{Gains}
use Rattle.dp_cert.specs.declared.faults.CertFault.{CertFault}
use Rattle.dp_cert.specs.declared.faults.CertFault.TheVariants.{VertexNotShown, OutputNotShown, SpanNotShown}
use Rattle.dp_cert.specs.declared.judged.Which.{Which}
use Rattle.dp_cert.specs.declared.judged.Which.TheVariants.{Vertex, Output, Span}
use Rattle.dp_cert.specs.declared.loops.AxisLoop.{AxisLoop}
use Rattle.dp_cert.specs.declared.loops.Loop.{Loop}
use Rattle.dp_cert.specs.Loop.{loop_three}
use Rattle.dp_cert.specs.WaveLoop.{loop_five}
use Rattle.dp_cert.specs.Matrices.{absolute_rows, contraction_matrix, output_matrix, unit}
use Rattle.dp_cert.specs.Ranges.{squares_at, squares_of}
use Rattle.dp_cert.specs.Sound.{Shrinks, BoundsOutput, BoundsCoordinate}

-- a matrix of a certificate of n states: axes 0 and 1, vertices 0 to 2, outputs 0 and 1
abbrev pub IsWhichOf : ℕ → Which → Type 0
IsWhichOf n (Vertex axis v) = (axis < 2) × (v < 3)
IsWhichOf n (Output axis w) = (axis < 2) × (w < 2)
IsWhichOf n (Span i) = i < n

-- ---- what the loop has of them
abbrev pub axis_of : {n : ℕ} → Loop n → ℕ → AxisLoop n
axis_of m zero = m.surge
axis_of m (suc axis) = m.sway

-- the matrix at a vertex
abbrev pub vertex_of : {n : ℕ} → AxisLoop n → ℕ → List (List ℤ)
vertex_of a zero = a.saturated
vertex_of a (suc zero) = a.clamped
vertex_of a (suc (suc v)) = a.free

-- what the demand follows, 1 with the bias clamped
abbrev pub output_of : {n : ℕ} → AxisLoop n → ℕ → List ℤ
output_of a zero = a.output
output_of a (suc w) = a.clamped_output

-- ---- the matrices and the lists
abbrev pub judged : {n : ℕ} → Cert → Lists n → Loop n → Which → List (List ℤ)
judged c l m (Vertex axis v) = contraction_matrix c.rho l.p.at (vertex_of (axis_of m axis) v)
judged c l m (Output axis w) = output_matrix (entry c.g axis) l.p.at (output_of (axis_of m axis) w)
judged {n} c l m (Span i) = output_matrix (entry l.span i) l.p.at (unit n i)

-- the list of squares that is to show it
abbrev pub squares_for : {n : ℕ} → Lists n → Which → List (Square n)
squares_for l (Vertex axis v) = squares_at l.vertex axis v
squares_for l (Output axis w) = squares_at l.output axis w
squares_for l (Span i) = squares_of l.spans i

-- the fault where it doesn't
abbrev pub fault_for : Which → NotShown → CertFault
fault_for (Vertex axis v) = λ s. VertexNotShown axis v s.row s.short
fault_for (Output axis w) = λ s. OutputNotShown axis w s.row s.short
fault_for (Span i) = λ s. SpanNotShown i s.row s.short

-- what a matrix that is shown says of the form
abbrev pub Says : {n : ℕ} → Cert → Lists n → Loop n → Which → Type 0
Says c l m (Vertex axis v) = Shrinks c l (vertex_of (axis_of m axis) v)
Says c l m (Output axis w) = BoundsOutput c l (output_of (axis_of m axis) w) axis
Says c l m (Span i) = BoundsCoordinate l i

-- of gains and a certificate, of three states or of five
abbrev pub judged_by : Gains → Cert → Parts → Which → List (List ℤ)
judged_by g c (Three l) which = judged c l (loop_three g) which
judged_by g c (Five l) which = judged c l (loop_five g) which

-- ---- the numbers under the roots: the squares of b and of r are at least these
abbrev pub input_square : {n : ℕ} → Lists n → Loop n → ℤ
input_square l m = pos 2 *ℤ form l.p.at m.correction

abbrev pub round_square : {n : ℕ} → Lists n → Loop n → ℤ
round_square l m = pos 2 *ℤ form (absolute_rows l.p.at) m.rounding

abbrev pub input_square_by : Gains → Parts → ℤ
input_square_by g (Three l) = input_square l (loop_three g)
input_square_by g (Five l) = input_square l (loop_five g)

abbrev pub round_square_by : Gains → Parts → ℤ
round_square_by g (Three l) = round_square l (loop_three g)
round_square_by g (Five l) = round_square l (loop_five g)
