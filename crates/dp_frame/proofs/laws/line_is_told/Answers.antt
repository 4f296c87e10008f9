use Rattle.dp_frame.proofs.ToldLines.{line_is_told}
use Rattle.dp_frame.proofs.laws.line_is_told.Goals as goal

pub returns : goal.returns
returns c = line_is_told
