use Rattle.dp_guide.proofs.Rows.{row}
use Rattle.dp_guide.proofs.laws.worked_row.Goals as goal

pub returns : goal.returns
returns c = row
