use Rattle.dp_machine.proofs.Issues.{of_their_cycle}
use Rattle.dp_machine.proofs.laws.issues_are_of_their_cycle.Goals as goal

pub returns : goal.returns
returns c = of_their_cycle
