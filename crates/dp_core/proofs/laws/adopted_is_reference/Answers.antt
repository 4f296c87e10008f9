use Rattle.dp_core.proofs.Adoptions.{adopted-on_reference}
use Rattle.dp_core.proofs.laws.adopted_is_reference.Goals as goal

pub returns : goal.returns
returns c = λ p e es one k a later g. adopted-on_reference p e es one k a later g
