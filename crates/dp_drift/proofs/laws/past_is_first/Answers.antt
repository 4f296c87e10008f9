use Rattle.dp_drift.proofs.Cycles.{past_is_first}
use Rattle.dp_drift.proofs.laws.past_is_first.Goals as goal

pub returns : goal.returns
returns c = past_is_first
