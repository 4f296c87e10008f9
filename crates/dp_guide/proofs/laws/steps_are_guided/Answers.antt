use Rattle.dp_guide.proofs.Motions.{step_kept}
use Rattle.dp_guide.proofs.laws.steps_are_guided.Goals as goal

pub returns : goal.returns
returns c = step_kept
