use Rattle.std.proofs.Common.{ℕ, sym, ◌∙◌, arith}
use Rattle.dp_form.specs.Vectors.{row}
use Rattle.dp_cert.specs.Width.{row_heavy, first_heavy}
use Rattle.dp_cert.proofs.FirstLaws.{first_none, first_some}
use Rattle.dp_cert.proofs.width.first_heavy.Goals as goal

pub returns-then-row_heavy : goal.returns-then-row_heavy
unfolding first_heavy
returns-then-row_heavy g c =
    sym (first_some g.row.N (λ (k : ℕ). row_heavy g.row.N (row c.args.p.now.at k) c.args.widths.now k) c.loop-i.i (omega arith) (sym c.row_heavy.ensures ∙ c.if-row_heavy.true) c.loop-i.invariant)

pub returns : goal.returns
unfolding first_heavy
returns g c =
    sym (first_none g.row.N (λ (k : ℕ). row_heavy g.row.N (row c.args.p.now.at k) c.args.widths.now k) (λ k h. c.loop-i.invariant k (omega arith)))
