use Rattle.std.proofs.Common.{rules, of_z, to_z, unsigned_abs}
use mir.Syntax.{w128}
use Rattle.dp_pid.proofs.AxisAnswers.{asked_plane_is, asked_small}
use Rattle.dp_pid.proofs.axis.asked_on_plane.Goals as goal

pub returns-clause-value : goal.returns-clause-value
returns-clause-value c = asked_plane_is c.args.axis c.args.along c.args.wind c.spring-spring.result c.held_on_plane.result c.times_scale_twice.result
    (to_z w128 (of_z w128 c.against.result)) (search rules) (search rules) (search rules) (search rules)

pub returns-clause-bound : goal.returns-clause-bound
returns-clause-bound c = asked_small (unsigned_abs (to_z w128 (of_z w128 c.against.result))) (unsigned_abs c.spring-spring.result) (unsigned_abs c.held_on_plane.result)
    (unsigned_abs c.times_scale_twice.result) (unsigned_abs c.args.along.error) (unsigned_abs c.args.along.velocity)
    (search rules) (search rules) (search rules) (search rules) (search rules) (search rules)
