use Rattle.dp_frame.proofs.CycleSteps.{frames-byte}
use Rattle.dp_frame.proofs.laws.feed_gives.Goals as goal

pub returns : goal.returns
returns c = frames-byte
