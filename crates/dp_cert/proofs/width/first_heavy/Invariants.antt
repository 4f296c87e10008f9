use Rattle.std.proofs.Common.{◌≡◌, ◌<◌, ℕ, false}
use Rattle.dp_form.specs.Vectors.{row}
use Rattle.dp_cert.specs.Width.{row_heavy}
use Rattle.dp_cert.proofs.width.first_heavy.Given as goal

abbrev pub invariant-loop-i : goal.invariant-loop-i
invariant-loop-i g l = (k : ℕ) → k < l.i → row_heavy g.row.N (row l.p.at k) l.widths k ≡ false
