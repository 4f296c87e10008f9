use Rattle.dp_nav.proofs.DigitBounds.{scaled-bound}
use Rattle.dp_nav.proofs.decimals.kept.Goals as goal

pub returns-clause-bound : goal.returns-clause-bound
returns-clause-bound c = scaled-bound c.number.result c.power.result _ c.args.k c.number.ensures.bound c.prefix-prefix.ensures.few c.power.ensures
