use Rattle.dp_guide.proofs.Courses.{next_only}
use Rattle.dp_guide.proofs.laws.next_is_only.Goals as goal

pub returns : goal.returns
returns c = next_only
