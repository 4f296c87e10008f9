use Rattle.dp_script.proofs.WrittenLines.{line_is_written}
use Rattle.dp_script.proofs.laws.line_is_written.Goals as goal

pub returns : goal.returns
returns c = line_is_written
