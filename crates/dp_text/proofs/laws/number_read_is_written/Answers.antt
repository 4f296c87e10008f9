use Rattle.dp_text.proofs.Places.{number_read_is_written}
use Rattle.dp_text.proofs.laws.number_read_is_written.Goals as goal

pub returns : goal.returns
returns c = number_read_is_written
