use Rattle.dp_drift.proofs.Drifts.{never_falls}
use Rattle.dp_drift.proofs.laws.drift_never_falls.Goals as goal

pub returns : goal.returns
returns c = never_falls
