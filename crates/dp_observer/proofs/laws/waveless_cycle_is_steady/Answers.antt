use Rattle.dp_observer.proofs.SteadyCycles.{is_steady}
use Rattle.dp_observer.proofs.laws.waveless_cycle_is_steady.Goals as goal

pub returns : goal.returns
returns c = is_steady
