use Rattle.dp_app.proofs.AcceptedTasks.{asked_accepted}
use Rattle.dp_app.proofs.laws.asked_plants_are_accepted.Goals as goal

pub returns : goal.returns
returns c = asked_accepted
