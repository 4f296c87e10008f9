use Rattle.dp_fixed.proofs.Clamps.{clamp_no_farther}
use Rattle.dp_fixed.proofs.laws.clamp_moves_no_farther.Goals as goal

pub returns : goal.returns
returns c = clamp_no_farther
