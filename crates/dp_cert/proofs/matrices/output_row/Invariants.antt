use Rattle.std.proofs.Common.{◌≡◌, ◌<◌, ◌^◌, ℕ, pos, ◌-ℤ◌, ◌*ℤ◌, length}
use Rattle.std.specs.Prelude.{slice_index_or}
use Rattle.dp_form.specs.Range.{IsWithin}
use Rattle.dp_cert.proofs.matrices.output_row.Given as goal

abbrev pub invariant-loop-j : goal.invariant-loop-j
invariant-loop-j g l = record {
  long : length l.out ≡ g.row.N;
  done : (j : ℕ) → j < l.j → slice_index_or l.out j (pos 0) ≡ l.k *ℤ l.k *ℤ slice_index_or l.row j (pos 0) -ℤ slice_index_or l.g l.i (pos 0) *ℤ slice_index_or l.g j (pos 0);
  small : (j : ℕ) → j < l.j → IsWithin (2 ^ 121) (slice_index_or l.out j (pos 0));
}
