use Rattle.std.proofs.Common.{◌≡◌, ◌<◌, ◌^◌, ℕ, pos, ◌-ℤ◌, ◌*ℤ◌, length, []}
use Rattle.std.specs.Prelude.{slice_index_or, All}
use Rattle.dp_form.specs.Vectors.{row}
use Rattle.dp_form.specs.Range.{IsWithin}
use Rattle.dp_cert.proofs.matrices.output_rows.Given as goal

abbrev pub invariant-loop-i : goal.invariant-loop-i
invariant-loop-i g l = record {
  long : length l.at ≡ g.row.N;
  done : (i j : ℕ) → i < l.i → j < g.row.N → slice_index_or (slice_index_or l.at i []) j (pos 0) ≡ l.k *ℤ l.k *ℤ slice_index_or (row l.p i) j (pos 0) -ℤ slice_index_or l.g i (pos 0) *ℤ slice_index_or l.g j (pos 0);
  small : (i : ℕ) → i < l.i → All (IsWithin (2 ^ 121)) (slice_index_or l.at i []);
  wide : (i : ℕ) → i < l.i → length (slice_index_or l.at i []) ≡ g.row.N;
  form : (i : ℕ) → i < l.i → length (row l.p i) ≡ g.row.N;
}
