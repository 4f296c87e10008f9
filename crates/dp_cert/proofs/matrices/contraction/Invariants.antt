use Rattle.std.proofs.Common.{◌≡◌, ◌<◌, ◌^◌, ℕ, length, []}
use Rattle.std.specs.Prelude.{slice_index_or, All}
use Rattle.dp_form.specs.Vectors.{row}
use Rattle.dp_form.specs.Form.{HasSize}
use Rattle.dp_form.specs.Range.{IsWithin}
use Rattle.dp_cert.specs.Matrices.{contraction_matrix}
use Rattle.dp_cert.proofs.matrices.contraction.Given as goal

abbrev pub invariant-loop-k : goal.invariant-loop-k
invariant-loop-k g l = record {
  long : length l.at ≡ g.row.N;
  done : (k : ℕ) → k < l.k → slice_index_or l.at k [] ≡ row (contraction_matrix l.rate l.p.at l.a) k;
  small : (k : ℕ) → k < l.k → All (IsWithin (2 ^ 121)) (slice_index_or l.at k []);
  form_size : 0 < l.k → HasSize g.row.N l.p.at;
  loop_size : 0 < l.k → HasSize g.row.N l.a;
}
