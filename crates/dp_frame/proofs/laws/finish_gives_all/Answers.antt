use Rattle.dp_frame.proofs.Endings.{finish-gives-all}
use Rattle.dp_frame.proofs.laws.finish_gives_all.Goals as goal

pub returns : goal.returns
returns c = finish-gives-all
