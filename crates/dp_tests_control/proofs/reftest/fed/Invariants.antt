use Rattle.std.proofs.Common.{◌≡◌}
use Rattle.dp_tests_control.proofs.reftest.fed.Given as goal

abbrev pub invariant-loop-word : goal.invariant-loop-word
invariant-loop-word g l = l.test.next ≡ l.cycle
