use Rattle.dp_guide.proofs.Courses.{rest_on_course}
use Rattle.dp_guide.proofs.laws.rest_is_on_course.Goals as goal

pub returns : goal.returns
returns c = rest_on_course
