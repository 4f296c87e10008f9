use Rattle.std.proofs.Common.{sym, ◌∙◌}
use Rattle.dp_sentence.proofs.Clean.{body-good}
use Rattle.dp_sentence.proofs.reading.bad_place_where.Goals as goal

pub returns-else-bad : goal.returns-else-bad
returns-else-bad c = sym (body-good c.args.line.now c.requires.start c.requires.field (sym c.requires.bad ∙ c.if-bad.false))
