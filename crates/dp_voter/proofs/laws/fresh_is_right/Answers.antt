use Rattle.dp_voter.proofs.Right.{fresh_right}
use Rattle.dp_voter.proofs.laws.fresh_is_right.Goals as goal

pub returns : goal.returns
returns c = fresh_right
