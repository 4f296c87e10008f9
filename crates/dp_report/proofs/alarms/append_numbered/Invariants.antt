use Rattle.std.proofs.Common.{◌≡◌, ◌+◌, ◌*◌, ◌≤◌, ◌++◌}
use Rattle.arrayvec.specs.ArrayVec.{array_vec_len}
use Rattle.dp_report.specs.Alarms.{numbered_lines}
use Rattle.dp_report.proofs.alarms.append_numbered.Given as goal

abbrev pub invariant-loop-k : goal.invariant-loop-k
invariant-loop-k l = record {
  text : l.into.items ≡ l.initial.into.items ++ numbered_lines l.words l.mask l.first l.k;
  room : array_vec_len l.into ≤ array_vec_len l.initial.into + 39 * l.k;
}
