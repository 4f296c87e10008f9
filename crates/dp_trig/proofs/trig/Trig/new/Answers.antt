use Rattle.dp_trig.specs.SinePair.{degrees, hundredths}
use Rattle.dp_trig.proofs.trig.Trig.new.Goals as goal

pub invariant_of-result : goal.invariant_of-result
unfolding degrees hundredths
invariant_of-result c = record { whole_degrees = c.table.ensures; rest_of_degree = c.table-2.ensures }
