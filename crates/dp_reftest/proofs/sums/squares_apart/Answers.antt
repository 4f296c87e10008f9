use Rattle.std.proofs.Common.{rules}
use Rattle.dp_reftest.proofs.Spreads.{places_squared}
use Rattle.dp_reftest.proofs.sums.squares_apart.Goals as goal

pub returns-clause-value : goal.returns-clause-value
returns-clause-value c = places_squared c.args.p.now c.args.q.now c.square_apart.result c.square_apart-2.result _ (search rules) (search rules) (search rules)
