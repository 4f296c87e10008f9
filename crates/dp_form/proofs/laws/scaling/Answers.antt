use Rattle.dp_form.proofs.Expansion.{form_scale}
use Rattle.dp_form.proofs.laws.scaling.Goals as goal

pub returns : goal.returns
returns c = form_scale
