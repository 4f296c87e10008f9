use Rattle.std.proofs.Common.{refl}
use Rattle.dp_drift.proofs.laws.worked_row.Goals as goal

pub returns : goal.returns
returns c = record { lack = refl; first = refl; second = refl; third = refl; no_lack = refl }
