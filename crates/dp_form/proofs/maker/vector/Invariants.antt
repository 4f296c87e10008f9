use Rattle.std.proofs.Common.{◌≡◌, ◌<◌, ◌^◌, ℕ, true, pos, length}
use Rattle.std.specs.Prelude.{slice_index_or}
use Rattle.dp_form.specs.Vectors.{row}
use Rattle.dp_form.specs.Residual.{residual}
use Rattle.dp_form.specs.Range.{IsWithin}
use Rattle.dp_form.specs.Made.{parts}
use Rattle.dp_form.proofs.MadeLaws.{is_small}
use Rattle.dp_form.proofs.maker.vector.Given as goal

abbrev pub invariant-loop-j : goal.invariant-loop-j
invariant-loop-j g l = record {
  long : length l.l ≡ g.row.N;
  is : (k : ℕ) → k < l.j → slice_index_or l.l k (pos 0) ≡ slice_index_or (parts l.i l.d l.scale 0 (row (residual l.s.at l.w.list.items) l.i)) k (pos 0);
  fits : (k : ℕ) → k < l.j → is_small (slice_index_or (parts l.i l.d l.scale 0 (row (residual l.s.at l.w.list.items) l.i)) k (pos 0)) ≡ true;
  within : (k : ℕ) → k < l.j → IsWithin (2 ^ 40) (slice_index_or l.l k (pos 0));
  wide : (k : ℕ) → k < l.j → length (row (residual l.s.at l.w.list.items) l.i) ≡ g.row.N;
}
