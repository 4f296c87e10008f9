use Rattle.dp_core.proofs.FreshBallots.{given-force}
use Rattle.dp_core.proofs.laws.fresh_is_reference.Goals as goal

pub returns : goal.returns
returns c = λ p es one k f g. given-force c.fresh_is_right.ensures p es k f one g
