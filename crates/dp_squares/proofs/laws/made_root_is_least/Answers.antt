use Rattle.dp_squares.proofs.LeastRoots.{made_root-least}
use Rattle.dp_squares.proofs.laws.made_root_is_least.Goals as goal

pub returns : goal.returns
returns c = made_root-least
