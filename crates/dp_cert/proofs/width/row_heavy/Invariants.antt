use Rattle.std.proofs.Common.{◌≡◌, ◌<◌, ℕ, false}
use Rattle.dp_plant.specs.Vectors.{entry}
use Rattle.dp_cert.specs.Width.{is_heavy}
use Rattle.dp_cert.proofs.width.row_heavy.Given as goal

abbrev pub invariant-loop-j : goal.invariant-loop-j
invariant-loop-j g l = (k : ℕ) → k < l.j → is_heavy (entry l.entries k) (entry l.widths l.i) (entry l.widths k) ≡ false
