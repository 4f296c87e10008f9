use Rattle.std.proofs.Common.{◌∙◌, refl, rules}
use Rattle.std.proofs.lemmas.List.{take_all}
use Rattle.dp_sentence.specs.Fields.{fields}
use Rattle.dp_sentence.proofs.Judging.{ok-sentence, reason-is, sentence-is}
use Rattle.dp_sentence.proofs.Joins.{parts-in-order}
use Rattle.dp_sentence.proofs.reading.read.Goals as goal

pub returns-in_err-address-clause-first_damage : goal.returns-in_err-address-clause-first_damage
returns-in_err-address-clause-first_damage c = search rules

pub returns-in_err-address-clause-sentence : goal.returns-in_err-address-clause-sentence
returns-in_err-address-clause-sentence c = sentence-is _ _ (returns-in_err-address-clause-first_damage c)

pub returns-in_err-address-clause-reason : goal.returns-in_err-address-clause-reason
returns-in_err-address-clause-reason c = reason-is _ _ (returns-in_err-address-clause-first_damage c)

pub returns-clause-first_damage : goal.returns-clause-first_damage
returns-clause-first_damage c = c.in_ok-address.ensures.first_damage

pub returns-clause-sentence : goal.returns-clause-sentence
returns-clause-sentence c = (λ _. ok-sentence c.args.line.now c.in_ok-address.ensures.first_damage, λ _. refl)

pub returns-clause-reason : goal.returns-clause-reason
returns-clause-reason c = reason-is _ _ (returns-clause-first_damage c)

pub returns-clause-fields : goal.returns-clause-fields
returns-clause-fields c =
    c.in_ok-address.ensures.fields refl ∙ take_all 24 (fields c.args.line.now) ((returns-clause-sentence c).0 refl).few

pub returns-clause-in_order : goal.returns-clause-in_order
returns-clause-in_order c =
    parts-in-order c.args.line.now _ _ _ c.in_ok-address.ensures.talker c.in_ok-address.ensures.formatter (returns-clause-fields c) ((returns-clause-sentence c).0 refl)
