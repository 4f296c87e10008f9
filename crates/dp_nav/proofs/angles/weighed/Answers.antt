use Rattle.dp_nav.proofs.DigitBounds.{scaled-bound}
use Rattle.dp_nav.proofs.angles.weighed.Goals as goal

pub returns-clause-bound : goal.returns-clause-bound
returns-clause-bound c = scaled-bound c.in_ok-number.number c.power.result _ 7 c.in_ok-number.ensures.bound c.requires c.power.ensures
