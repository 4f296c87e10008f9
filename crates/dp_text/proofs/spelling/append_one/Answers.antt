use Rattle.std.proofs.Common.{◌∙◌}
use Rattle.dp_text.proofs.Decimals.{with_first}
use Rattle.dp_text.proofs.spelling.append_one.Goals as goal

pub returns-clause-text : goal.returns-clause-text
returns-clause-text g c = c.append_last.ensures.text ∙ with_first c.args.into.now.items c.args.number c.requires.small
