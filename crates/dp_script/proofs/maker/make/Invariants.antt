use Rattle.std.proofs.Common.{◌≤◌, length}
use Rattle.dp_script.specs.Made.{made}
use Rattle.dp_script.proofs.Making.{HasTaken}
use Rattle.dp_script.proofs.maker.make.Given as goal

abbrev pub invariant-loop-maker : goal.invariant-loop-maker
invariant-loop-maker g l = record {
  taken : HasTaken (g.K.Sink.taken l.fn.out) (g.K.Sink.taken l.out) (made l.number) l.maker;
  later : g.K.Sink.faults l.fn.out ≤ g.K.Sink.faults l.out;
}

abbrev pub decreases-loop-maker : goal.decreases-loop-maker
decreases-loop-maker g l = length l.maker
