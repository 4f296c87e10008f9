use Rattle.dp_alloc.proofs.Moments.{turn_along}
use Rattle.dp_alloc.proofs.laws.moments_turn_along.Goals as goal

pub returns : goal.returns
returns c = turn_along
