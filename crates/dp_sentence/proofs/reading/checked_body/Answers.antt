use Rattle.dp_sentence.specs.Fields.{body}
use Rattle.dp_sentence.proofs.Cuts.{parts-count}
use Rattle.dp_sentence.proofs.reading.checked_body.Goals as goal

pub returns-clause-commas : goal.returns-clause-commas
unfolding body
returns-clause-commas c = parts-count _ c.look-found.result.commas c.look-found.ensures.commas
