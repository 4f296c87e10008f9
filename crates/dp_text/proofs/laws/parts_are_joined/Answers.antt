use Rattle.dp_text.proofs.JoinedParts.{parts_are_joined}
use Rattle.dp_text.proofs.laws.parts_are_joined.Goals as goal

pub returns : goal.returns
returns c = parts_are_joined
