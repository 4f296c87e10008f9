use Rattle.dp_trig.proofs.SinePairs.{pair_of-short, pair_of-parts}
use Rattle.dp_trig.proofs.laws.every_pair_is_short.Goals as goal

pub returns : goal.returns
returns c = record { short = λ a _. pair_of-short a; parts = λ a _. pair_of-parts a }
