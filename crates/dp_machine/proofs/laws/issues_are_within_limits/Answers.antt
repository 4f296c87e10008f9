use Rattle.dp_machine.proofs.IssueLimits.{within_limits}
use Rattle.dp_machine.proofs.laws.issues_are_within_limits.Goals as goal

pub returns : goal.returns
returns c = within_limits c.forces_are_within_limits.ensures
