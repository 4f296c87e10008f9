use Rattle.dp_fixed.proofs.Divisions.{floor_only}
use Rattle.dp_fixed.proofs.laws.floor_is_only.Goals as goal

pub returns : goal.returns
returns c = floor_only
