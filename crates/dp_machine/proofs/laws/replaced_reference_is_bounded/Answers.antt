use Rattle.dp_machine.proofs.AcceptedRuns.{replaced_is_bounded, runs_share}
use Rattle.dp_machine.proofs.laws.replaced_reference_is_bounded.Goals as goal

pub returns : goal.returns
returns c = record { shared = runs_share; bounded = replaced_is_bounded }
