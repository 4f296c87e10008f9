use Rattle.dp_form.proofs.Shown.{dominant_nonneg}
use Rattle.dp_form.proofs.laws.diagonal_dominance.Goals as goal

pub returns : goal.returns
returns c = dominant_nonneg
