use Rattle.dp_nav.proofs.AngleCuts.{kept-is, rest-bad}
use Rattle.dp_nav.proofs.angles.kept_of.Goals as goal

pub returns-then-not-all_digits-clause-value : goal.returns-then-not-all_digits-clause-value
returns-then-not-all_digits-clause-value c =
    rest-bad c.args.decimals.now c.prefix-first.result.now c.prefix-first.ensures.value c.if-not-all_digits.ensures

pub returns-clause-value : goal.returns-clause-value
returns-clause-value c =
    kept-is c.args.decimals.now c.prefix-first.result.now c.prefix-first.ensures.value c.if-not-all_digits.ensures c.weighed.result c.weighed.ensures.value
