use Rattle.dp_frame.proofs.Endings.{refusal-ends}
use Rattle.dp_frame.proofs.laws.refusal_lasts.Goals as goal

pub returns : goal.returns
returns c = refusal-ends
