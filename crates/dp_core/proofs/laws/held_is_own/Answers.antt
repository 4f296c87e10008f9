use Rattle.dp_core.proofs.HeldForces.{held-own}
use Rattle.dp_core.proofs.laws.held_is_own.Goals as goal

pub returns : goal.returns
returns c = λ p es k a f. held-own p k a es f
