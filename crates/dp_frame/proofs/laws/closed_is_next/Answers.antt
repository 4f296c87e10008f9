use Rattle.dp_frame.proofs.Endings.{closed-next}
use Rattle.dp_frame.proofs.laws.closed_is_next.Goals as goal

pub returns : goal.returns
returns c = closed-next
