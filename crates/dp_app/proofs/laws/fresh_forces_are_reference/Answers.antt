use Rattle.dp_app.proofs.FreshForces.{tells}
use Rattle.dp_app.proofs.laws.fresh_forces_are_reference.Goals as goal

pub returns : goal.returns
returns c = λ asked. tells c.fresh_is_reference.ensures asked
