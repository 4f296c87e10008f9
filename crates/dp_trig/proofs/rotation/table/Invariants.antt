use Rattle.std.proofs.Common.{◌≡◌, ◌<◌, ℕ, Some, length, slice_get}
use Rattle.dp_trig.specs.Rotation.{repeated}
use Rattle.dp_trig.proofs.rotation.table.Given as goal

abbrev pub invariant-loop-rotation : goal.invariant-loop-rotation
invariant-loop-rotation g l = record {
  reached_is : l.reached ≡ repeated l.step l.rotation-index;
  whole : length l.rotation-items ≡ g.row.N;
  filled : (k : ℕ) → k < l.rotation-index → slice_get l.rotation-items k ≡ Some (repeated l.step k);
}
