use Rattle.dp_fixed.proofs.Clamps.{clamp_inside}
use Rattle.dp_fixed.proofs.laws.clamp_keeps_inside.Goals as goal

pub returns : goal.returns
returns c = clamp_inside
