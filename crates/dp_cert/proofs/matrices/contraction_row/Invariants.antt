use Rattle.std.proofs.Common.{◌≡◌, ◌<◌, ◌^◌, ℕ, pos, length}
use Rattle.std.specs.Prelude.{slice_index_or}
use Rattle.dp_form.specs.Vectors.{entry}
use Rattle.dp_form.specs.Form.{HasSize}
use Rattle.dp_form.specs.Range.{IsWithin}
use Rattle.dp_cert.specs.Matrices.{contraction_matrix}
use Rattle.dp_cert.proofs.matrices.contraction_row.Given as goal

abbrev pub invariant-loop-k : goal.invariant-loop-k
invariant-loop-k g l = record {
  long : length l.out ≡ g.row.N;
  done : (k : ℕ) → k < l.k → slice_index_or l.out k (pos 0) ≡ entry (contraction_matrix l.rate l.p.at l.a) l.i k;
  small : (k : ℕ) → k < l.k → IsWithin (2 ^ 121) (entry (contraction_matrix l.rate l.p.at l.a) l.i k);
  form_size : 0 < l.k → HasSize g.row.N l.p.at;
  loop_size : 0 < l.k → HasSize g.row.N l.a;
}
