use Rattle.dp_nav.proofs.DigitBounds.{number-bound}
use Rattle.dp_nav.proofs.decimals.number.Goals as goal

pub returns-clause-bound : goal.returns-clause-bound
returns-clause-bound c = rw (c.unwrap_or.ensures, c.decimal.ensures.value) (number-bound c.args.digits.now)
