use Rattle.std.proofs.Common.{◌≡◌, ◌<◌, ◌^◌, ℕ, pos, length}
use Rattle.std.specs.Prelude.{slice_index_or}
use Rattle.dp_form.specs.Vectors.{apply, row}
use Rattle.dp_form.specs.Range.{IsWithin}
use Rattle.dp_cert.proofs.matrices.applied.Given as goal

abbrev pub invariant-loop-k : goal.invariant-loop-k
invariant-loop-k g l = record {
  long : length l.out ≡ g.row.N;
  done : (k : ℕ) → k < l.k → slice_index_or l.out k (pos 0) ≡ slice_index_or (apply l.p l.x) k (pos 0);
  small : (k : ℕ) → k < l.k → IsWithin (2 ^ 78) (slice_index_or (apply l.p l.x) k (pos 0));
  wide : (k : ℕ) → k < l.k → length (row l.p k) ≡ g.row.N;
}
