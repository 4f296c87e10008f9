use Rattle.dp_drift.proofs.Drifts.{past_later}
use Rattle.dp_drift.proofs.laws.larger_box_is_past_later.Goals as goal

pub returns : goal.returns
returns c = past_later
