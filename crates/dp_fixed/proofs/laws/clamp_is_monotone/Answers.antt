use Rattle.dp_fixed.proofs.Clamps.{clamp_monotone}
use Rattle.dp_fixed.proofs.laws.clamp_is_monotone.Goals as goal

pub returns : goal.returns
returns c = clamp_monotone
