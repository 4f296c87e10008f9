use Rattle.dp_machine.proofs.Issues.{force_for_each}
use Rattle.dp_machine.proofs.laws.issues_have_a_force_for_each_thruster.Goals as goal

pub returns : goal.returns
returns c = force_for_each
