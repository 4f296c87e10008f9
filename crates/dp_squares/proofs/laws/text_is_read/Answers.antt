use Rattle.dp_squares.proofs.ReadSections.{text_is_read}
use Rattle.dp_squares.proofs.laws.text_is_read.Goals as goal

pub returns : goal.returns
returns c = text_is_read
