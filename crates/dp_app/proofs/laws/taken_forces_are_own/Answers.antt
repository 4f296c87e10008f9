use Rattle.dp_app.proofs.OwnTaken.{tells_own}
use Rattle.dp_app.proofs.laws.taken_forces_are_own.Goals as goal

pub returns : goal.returns
returns c = λ asked. tells_own c.held_is_own.ensures asked
