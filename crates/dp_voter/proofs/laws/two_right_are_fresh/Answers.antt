use Rattle.dp_voter.proofs.Right.{two_right}
use Rattle.dp_voter.proofs.laws.two_right_are_fresh.Goals as goal

pub returns : goal.returns
returns c = two_right
