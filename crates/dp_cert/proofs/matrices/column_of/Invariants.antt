use Rattle.std.proofs.Common.{◌≡◌, ◌<◌, ℕ, pos, length}
use Rattle.std.specs.Prelude.{slice_index_or}
use Rattle.dp_form.specs.Vectors.{row}
use Rattle.dp_cert.specs.Matrices.{column}
use Rattle.dp_cert.proofs.matrices.column_of.Given as goal

abbrev pub invariant-loop-k : goal.invariant-loop-k
invariant-loop-k g l = record {
  long : length l.out ≡ g.row.N;
  done : (k : ℕ) → k < l.k → slice_index_or l.out k (pos 0) ≡ slice_index_or (column l.a l.j) k (pos 0);
  wide : (k : ℕ) → k < l.k → length (row l.a k) ≡ g.row.N;
}
