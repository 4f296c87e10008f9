use Rattle.dp_frame.proofs.Endings.{prefix-of-record}
use Rattle.dp_frame.proofs.laws.prefix_of_record.Goals as goal

pub returns : goal.returns
returns c = prefix-of-record
