use Rattle.dp_trig.proofs.Symmetry.{north, quarter_more, other_half}
use Rattle.dp_trig.proofs.laws.pairs_are_symmetric.Goals as goal

pub returns : goal.returns
returns c = record { north = north; quarter = quarter_more; mirror = other_half }
