use Rattle.dp_app.proofs.BoundedForces.{tells_bounded}
use Rattle.dp_app.proofs.laws.fresh_forces_are_bounded.Goals as goal

pub returns : goal.returns
returns c = λ asked. tells_bounded c.fresh_is_reference.ensures c.replaced_reference_is_bounded.ensures.bounded asked
