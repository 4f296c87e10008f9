use Rattle.dp_sentence.proofs.Changes.{one-byte-changed}
use Rattle.dp_sentence.proofs.laws.one_byte_changed.Goals as goal

pub returns : goal.returns
returns c = one-byte-changed
