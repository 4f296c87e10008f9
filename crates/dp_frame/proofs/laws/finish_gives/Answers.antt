use Rattle.dp_frame.proofs.Endings.{finish-gives}
use Rattle.dp_frame.proofs.laws.finish_gives.Goals as goal

pub returns : goal.returns
returns c = finish-gives
