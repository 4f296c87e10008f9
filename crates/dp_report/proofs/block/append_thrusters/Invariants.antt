use Rattle.std.proofs.Common.{◌≡◌, ◌+◌, ◌*◌, ◌≤◌, ◌++◌, take}
use Rattle.arrayvec.specs.ArrayVec.{array_vec_len}
use Rattle.dp_report.specs.Text.{thruster_lines}
use Rattle.dp_report.proofs.block.append_thrusters.Given as goal

abbrev pub invariant-loop-k : goal.invariant-loop-k
invariant-loop-k l = record {
  text : l.into.items ≡ l.initial.into.items ++ thruster_lines (take l.k l.ballots) (take l.k l.held);
  room : array_vec_len l.into ≤ array_vec_len l.initial.into + 108 * l.k;
}
