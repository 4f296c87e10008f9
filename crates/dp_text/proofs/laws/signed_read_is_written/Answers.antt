use Rattle.dp_text.proofs.Signs.{signed_read_is_written}
use Rattle.dp_text.proofs.laws.signed_read_is_written.Goals as goal

pub returns : goal.returns
returns c = signed_read_is_written
