use Rattle.dp_fixed.proofs.Wraps.{wrap_is}
use Rattle.dp_fixed.proofs.laws.wrap_is_nearest.Goals as goal

pub returns : goal.returns
returns c = wrap_is
