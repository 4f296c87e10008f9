use Rattle.std.proofs.Common.{arith}
use Rattle.std.proofs.lemmas.Bool.Decides.{nat_tests}
use Rattle.dp_trig.specs.SinePair.{quadrant_pair}
use Rattle.dp_trig.proofs.trig.Trig.quadrant.Goals as goal

pub returns-then-hundredths-le4500-clause-value : goal.returns-then-hundredths-le4500-clause-value
unfolding quadrant_pair
returns-then-hundredths-le4500-clause-value c = grind (arith, nat_tests)

pub returns-else-hundredths-le4500-clause-value : goal.returns-else-hundredths-le4500-clause-value
unfolding quadrant_pair
returns-else-hundredths-le4500-clause-value c = grind (arith, nat_tests)
