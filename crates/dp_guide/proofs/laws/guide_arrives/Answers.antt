use Rattle.dp_guide.proofs.Motions.{arrives}
use Rattle.dp_guide.proofs.laws.guide_arrives.Goals as goal

pub returns : goal.returns
returns c = arrives
