use Rattle.std.proofs.Common.{◌≡◌, ◌≤◌, ◌-◌, ◌++◌, length}
use Rattle.std.specs.Prelude.{All}
use Rattle.dp_form.specs.Residual.{residual}
use Rattle.dp_form.specs.Range.{IsSmallSquare}
use Rattle.dp_form.specs.Made.{made_from}
use Rattle.dp_form.proofs.maker.made.Given as goal

abbrev pub invariant-loop-i : goal.invariant-loop-i
invariant-loop-i g l = record {
  whole : l.made.list.items ++ made_from {n = g.row.N} (g.row.N - 1 - l.i) l.i (residual l.s.at l.made.list.items) ≡ made_from {n = g.row.N} (g.row.N - 1) 0 l.s.at;
  small : All IsSmallSquare l.made.list.items;
  few : length l.made.list.items ≤ l.i;
}
