use Rattle.std.proofs.Common.{◌≡◌, ◌≤◌, ◌^◌, pos, ◌≤ℤ◌}
use Rattle.dp_form.specs.Made.{shift}
use Rattle.dp_form.proofs.maker.scale_of.Given as goal

abbrev pub decreases-loop-k : goal.decreases-loop-k
decreases-loop-k l = l.k

abbrev pub invariant-loop-k : goal.invariant-loop-k
invariant-loop-k l = record {
  is : l.scale ≡ pos (2 ^ l.k);
  few : l.k ≤ 40;
  high : l.scale ≤ℤ pos (2 ^ 40);
  rest : shift l.k l.q ≡ shift 40 l.q;
}
