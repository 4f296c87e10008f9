use Rattle.std.proofs.Common.{◌≡◌, ◌+◌, ◌*◌, ◌≤◌, ◌++◌, drop}
use Rattle.arrayvec.specs.ArrayVec.{array_vec_len}
use Rattle.dp_app.specs.Check.{bound_lines}
use Rattle.dp_app.proofs.check.append_bounds.Given as goal

-- with the lines that are left it is all
abbrev pub invariant-loop-k : goal.invariant-loop-k
invariant-loop-k l = record {
  text : l.text.items ++ bound_lines l.k (drop l.k l.bounds) ≡ l.initial.text.items ++ bound_lines 0 l.bounds;
  room : array_vec_len l.text ≤ array_vec_len l.initial.text + 108 * l.k;
}
