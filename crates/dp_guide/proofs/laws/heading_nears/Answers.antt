use Rattle.dp_guide.proofs.Headings.{heading_nears}
use Rattle.dp_guide.proofs.laws.heading_nears.Goals as goal

pub returns : goal.returns
returns c = heading_nears
