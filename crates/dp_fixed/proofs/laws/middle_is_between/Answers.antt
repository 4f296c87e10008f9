use Rattle.dp_fixed.proofs.Clamps.{middle_is}
use Rattle.dp_fixed.proofs.laws.middle_is_between.Goals as goal

pub returns : goal.returns
returns c = middle_is
