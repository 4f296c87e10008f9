use Rattle.dp_reftest.proofs.Windows.{verdict_rests_on_its_own_wire}
use Rattle.dp_reftest.proofs.laws.verdict_rests_on_its_own_wire.Goals as goal

pub returns : goal.returns
returns c = verdict_rests_on_its_own_wire
