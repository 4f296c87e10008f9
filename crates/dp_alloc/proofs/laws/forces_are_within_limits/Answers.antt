use Rattle.dp_alloc.proofs.ForceLimits.{forces_are_within}
use Rattle.dp_alloc.proofs.laws.forces_are_within_limits.Goals as goal

pub returns : goal.returns
returns c = forces_are_within
