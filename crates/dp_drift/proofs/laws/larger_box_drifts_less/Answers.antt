use Rattle.dp_drift.proofs.Drifts.{larger_box}
use Rattle.dp_drift.proofs.laws.larger_box_drifts_less.Goals as goal

pub returns : goal.returns
returns c = larger_box
