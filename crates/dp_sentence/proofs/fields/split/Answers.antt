use Rattle.std.proofs.Common.{arith}
use Rattle.dp_sentence.proofs.Cuts.{first-part}
use Rattle.dp_sentence.proofs.fields.split.Goals as goal

pub returns-then-commas-eq0-clause-address : goal.returns-then-commas-eq0-clause-address
returns-then-commas-eq0-clause-address g c = first-part c.args.body.now (omega (arith, c.requires.commas, c.if-commas-eq0.true))
