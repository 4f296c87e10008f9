use Rattle.dp_frame.proofs.Endings.{frames-last}
use Rattle.dp_frame.proofs.laws.frames_last.Goals as goal

pub returns : goal.returns
returns c = frames-last
