use Rattle.dp_fixed.proofs.Clamps.{clamp_within}
use Rattle.dp_fixed.proofs.laws.clamp_is_within.Goals as goal

pub returns : goal.returns
returns c = clamp_within
