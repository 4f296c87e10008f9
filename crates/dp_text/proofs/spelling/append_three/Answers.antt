use Rattle.std.proofs.Common.{arith}
use Rattle.dp_text.proofs.Decimals.{one_more}
use Rattle.dp_text.proofs.spelling.append_three.Goals as goal

pub returns-clause-text : goal.returns-clause-text
returns-clause-text g c = one_more _ _ _ c.args.number c.append_two.ensures.text c.append_last.ensures.text (omega (arith, c.requires.above)) (omega (arith, c.requires.small))
