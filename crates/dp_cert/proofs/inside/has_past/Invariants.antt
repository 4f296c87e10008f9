use Rattle.std.proofs.Common.{◌≡◌, ◌<◌, ℕ, false}
use Rattle.dp_plant.specs.Vectors.{entry}
use Rattle.dp_cert.specs.CertifiedSet.{is_past}
use Rattle.dp_cert.proofs.inside.has_past.Given as goal

abbrev pub invariant-loop-i : goal.invariant-loop-i
invariant-loop-i g l = (k : ℕ) → k < l.i → is_past (entry l.x k) (entry l.widths k) ≡ false
