use Rattle.std.proofs.Common.{◌∙◌, rules}
use Rattle.dp_sentence.specs.Address.{talker, formatter}
use Rattle.dp_sentence.specs.Damage.{damage}
use Rattle.dp_sentence.specs.Fields.{address, fields}
use Rattle.dp_sentence.proofs.reading.read_first.Goals as goal

pub returns-in_err-body-clause-first_damage : goal.returns-in_err-body-clause-first_damage
unfolding damage
returns-in_err-body-clause-first_damage g c = search rules

pub returns-clause-first_damage : goal.returns-clause-first_damage
unfolding damage fields
returns-clause-first_damage g c = c.address_of.ensures.damage ∙ rw (c.in_ok-body.ensures.body, ← c.in_ok-body.ensures.damage)

pub returns-clause-talker : goal.returns-clause-talker
unfolding talker address
returns-clause-talker g c = rw c.in_ok-body.ensures.body at c.address_of.ensures.talker

pub returns-clause-formatter : goal.returns-clause-formatter
unfolding formatter address
returns-clause-formatter g c = rw c.in_ok-body.ensures.body at c.address_of.ensures.formatter

pub returns-clause-fields : goal.returns-clause-fields
unfolding fields
returns-clause-fields g c = rw c.in_ok-body.ensures.body at c.address_of.ensures.fields
