use Rattle.dp_sentence.proofs.Joins.{written-back}
use Rattle.dp_sentence.proofs.laws.written_back.Goals as goal

pub returns : goal.returns
returns c = written-back
