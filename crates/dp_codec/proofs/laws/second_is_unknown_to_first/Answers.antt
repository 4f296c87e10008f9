use Rattle.dp_codec.proofs.Whole.{second_is_unknown}
use Rattle.dp_codec.proofs.laws.second_is_unknown_to_first.Goals as goal

pub returns : goal.returns
returns c = second_is_unknown
