use Rattle.dp_guide.proofs.Courses.{guided}
use Rattle.dp_guide.proofs.laws.cycle_is_guided.Goals as goal

pub returns : goal.returns
returns c = guided
