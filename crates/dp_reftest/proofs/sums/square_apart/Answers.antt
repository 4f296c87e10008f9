use Rattle.std.proofs.Common.{rules}
use Rattle.dp_reftest.proofs.Spreads.{apart_squared}
use Rattle.dp_reftest.proofs.sums.square_apart.Goals as goal

pub returns-clause-value : goal.returns-clause-value
returns-clause-value c = apart_squared c.args.a c.args.b c.less.result c.more.result _ (search rules) (search rules) (search rules)
