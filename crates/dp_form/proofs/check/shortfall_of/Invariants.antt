use Rattle.std.proofs.Common.{◌≡◌, ◌<◌, ◌≤◌, ◌*◌, ◌^◌, pos, ◌+ℤ◌, ◌≤ℤ◌}
use Rattle.std.specs.Int.RustNames.{unsigned_abs}
use Rattle.dp_form.specs.Vectors.{row, entry}
use Rattle.dp_form.specs.Residual.{residual}
use Rattle.dp_form.proofs.Rest.{sizes_below}
use Rattle.dp_form.proofs.check.shortfall_of.Given as goal

abbrev pub invariant-loop-j : goal.invariant-loop-j
invariant-loop-j g l = record {
  before : l.j ≤ l.i → l.rest ≡ pos (sizes_below (row (residual l.s.at l.w.list.items) l.i) l.j);
  after : l.i < l.j → l.rest +ℤ pos (unsigned_abs (entry (residual l.s.at l.w.list.items) l.i l.i)) ≡ pos (sizes_below (row (residual l.s.at l.w.list.items) l.i) l.j);
  low : pos 0 ≤ℤ l.rest;
  high : l.rest ≤ℤ pos (l.j * (5 * 2 ^ 121));
}
