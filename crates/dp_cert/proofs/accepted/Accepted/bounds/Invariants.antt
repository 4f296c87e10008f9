use Rattle.std.proofs.Common.{◌≡◌, take, map}
use Rattle.dp_cert.specs.Bound.{bound}
use Rattle.dp_cert.proofs.accepted.Accepted.bounds.Given as goal

abbrev pub invariant-loop-row : goal.invariant-loop-row
invariant-loop-row l = l.bounds.items ≡ map (bound l.self.cert) (take l.row-index l.row-items)
