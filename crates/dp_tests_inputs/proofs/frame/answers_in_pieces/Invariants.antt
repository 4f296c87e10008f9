use Rattle.std.proofs.Common.{◌-◌, ◌≤◌, length}
use Rattle.dp_tests_inputs.proofs.frame.answers_in_pieces.Given as goal

abbrev pub invariant-loop-fed : goal.invariant-loop-fed
invariant-loop-fed g l = l.fed ≤ length l.record

abbrev pub decreases-loop-fed : goal.decreases-loop-fed
decreases-loop-fed g l = length l.record - l.fed
