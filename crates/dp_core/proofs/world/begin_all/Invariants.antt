use Rattle.std.proofs.Common.{◌≡◌, ◌++◌, map, take, drop}
use Rattle.dp_voter.specs.VoterState.{begun}
use Rattle.dp_core.proofs.world.begin_all.Given as goal

abbrev pub invariant-loop-voter : goal.invariant-loop-voter
invariant-loop-voter l = l.voter-items ≡ map (λ v. begun v l.cycle) (take l.voter-index l.initial.voter-items) ++ drop l.voter-index l.initial.voter-items
