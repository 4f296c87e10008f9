use Rattle.dp_form.proofs.Axes.{axes_form, short_pair}
use Rattle.dp_form.proofs.laws.axes.Goals as goal

pub returns : goal.returns
returns c = record { split = axes_form; short_pair = short_pair }
