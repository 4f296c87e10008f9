use Rattle.dp_fixed.proofs.Divisions.{floor_is}
use Rattle.dp_fixed.proofs.laws.floor_is_exact.Goals as goal

pub returns : goal.returns
returns c = floor_is
