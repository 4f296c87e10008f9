use Rattle.dp_sentence.proofs.Cuts.{parts-cut, take-rest}
use Rattle.dp_sentence.proofs.fields.cut.Goals as goal

pub returns : goal.returns
returns c = let h = parts-cut c.args.text.now c.comma_place-at.result c.comma_place-at.ensures.place c.comma_place-at.ensures.within in rw take-rest h
