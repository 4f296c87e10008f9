use Rattle.dp_frame.proofs.CycleSteps.{answers-give}
use Rattle.dp_frame.proofs.laws.answers_give.Goals as goal

pub returns : goal.returns
returns c = answers-give
