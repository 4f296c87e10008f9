use Rattle.dp_core.proofs.OwnForces.{own-force}
use Rattle.dp_core.proofs.laws.taken_is_own.Goals as goal

pub returns : goal.returns
returns c = λ p es k a s. own-force p k a es s
