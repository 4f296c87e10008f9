use Rattle.dp_guide.proofs.Courses.{journey_arrives}
use Rattle.dp_guide.proofs.laws.journey_arrives.Goals as goal

pub returns : goal.returns
returns c = journey_arrives
