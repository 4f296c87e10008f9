use Rattle.dp_fixed.proofs.Divisions.{ceil_is}
use Rattle.dp_fixed.proofs.laws.ceil_is_least_above.Goals as goal

pub returns : goal.returns
returns c = ceil_is
