use Rattle.dp_codec.proofs.Whole.{read_is_written}
use Rattle.dp_codec.proofs.laws.read_is_written.Goals as goal

pub returns : goal.returns
returns c = read_is_written
