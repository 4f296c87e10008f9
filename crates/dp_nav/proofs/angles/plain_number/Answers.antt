use Rattle.std.proofs.Common.{length, sym, ◌∙◌}
use Rattle.dp_nav.proofs.AngleCuts.{plain-bound, plain-value, some-length}
use Rattle.dp_nav.proofs.angles.plain_number.Goals as goal

pub returns-clause-value : goal.returns-clause-value
returns-clause-value c =
    plain-value c.args.digits.now c.decimal.result (some-length (length c.args.digits.now) (sym c.is_empty.ensures ∙ c.if-is_empty.false)) c.requires c.decimal.ensures.value

pub returns-clause-bound : goal.returns-clause-bound
returns-clause-bound c = plain-bound c.args.digits.now c.decimal.result c.decimal.ensures.value
