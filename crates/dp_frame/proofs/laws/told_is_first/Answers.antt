use Rattle.dp_frame.proofs.Endings.{told-first}
use Rattle.dp_frame.proofs.laws.told_is_first.Goals as goal

pub returns : goal.returns
returns c = told-first
