use Rattle.std.proofs.Common.{◌≡◌}
use Rattle.dp_core.specs.Several.{sent}
use Rattle.dp_core.proofs.world.deliver_all.Given as goal

abbrev pub invariant-loop-k : goal.invariant-loop-k
invariant-loop-k l = l.voters ≡ sent l.from l.issue l.k l.initial.voters
