use Rattle.dp_core.proofs.Soundness.{sound}
use Rattle.dp_core.proofs.laws.trajectories_are_reference.Goals as goal

pub returns : goal.returns
returns c = λ p es one k l a. ((sound p es one).computers k).state l a
