use Rattle.dp_exchange.proofs.Equality.{same-is_equal}
use Rattle.dp_exchange.proofs.laws.same_states_are_equal.Goals as goal

pub returns : goal.returns
returns c = same-is_equal
