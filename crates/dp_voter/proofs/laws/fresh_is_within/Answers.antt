use Rattle.dp_voter.proofs.Limits.{agreed_within}
use Rattle.dp_voter.proofs.laws.fresh_is_within.Goals as goal

pub returns : goal.returns
returns c = agreed_within
