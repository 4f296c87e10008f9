use Rattle.dp_form.proofs.Shown.{shown_nonneg}
use Rattle.dp_form.proofs.laws.shown.Goals as goal

pub returns : goal.returns
returns c = λ n p qs. shown_nonneg p qs
