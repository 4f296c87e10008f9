use Rattle.dp_core.specs.History.{history}
use Rattle.dp_core.proofs.Soundness.{not_skewed}
use Rattle.dp_core.proofs.laws.skewed_is_faulty.Goals as goal

pub returns : goal.returns
returns c = λ p es k a. not_skewed k (history p es) a
