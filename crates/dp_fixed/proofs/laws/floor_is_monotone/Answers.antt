use Rattle.dp_fixed.proofs.Divisions.{floor_monotone}
use Rattle.dp_fixed.proofs.laws.floor_is_monotone.Goals as goal

pub returns : goal.returns
returns c = floor_monotone
