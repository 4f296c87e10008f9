use Rattle.std.proofs.Common.{◌≡◌}
use Rattle.dp_tests_control.proofs.reftest.agrees_with_the_tests_over_the_whole_list.Given as goal

abbrev pub invariant-loop-cycle : goal.invariant-loop-cycle
invariant-loop-cycle g l = l.test.next ≡ l.cycle-counter
