use Rattle.dp_guide.proofs.Courses.{velocity_is_next}
use Rattle.dp_guide.proofs.laws.velocity_is_next.Goals as goal

pub returns : goal.returns
returns c = velocity_is_next
