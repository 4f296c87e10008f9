use Rattle.std.proofs.Common.{rules, to_z-of_z}
use Rattle.dp_fixed.proofs.NearTurns.{wrap_near, wrapped_near}
use Rattle.dp_fixed.proofs.turns.wrap_near.Goals as goal

pub returns-then-x-half-clause-value : goal.returns-then-x-half-clause-value
returns-then-x-half-clause-value c = rw (to_z-of_z c.ranges.x)
    (wrap_near c.args.x c.args.turn c.half_of-half.result c.requires.positive c.requires.even (search rules) (search rules) (search rules))

pub returns-then-x-half-clause-wrapped : goal.returns-then-x-half-clause-wrapped
returns-then-x-half-clause-wrapped c = rw (to_z-of_z c.ranges.x)
    (wrapped_near c.args.x c.args.turn c.half_of-half.result c.requires.positive c.requires.even (search rules) (search rules) (search rules))
