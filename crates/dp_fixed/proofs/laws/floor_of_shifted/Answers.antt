use Rattle.dp_fixed.proofs.Divisions.{floor_shifted}
use Rattle.dp_fixed.proofs.laws.floor_of_shifted.Goals as goal

pub returns : goal.returns
returns c = floor_shifted
