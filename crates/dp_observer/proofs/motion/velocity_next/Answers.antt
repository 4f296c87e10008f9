use Rattle.std.proofs.Common.{rules, ◌*ℤ◌, of_z, to_z}
use mir.Syntax.{w128}
use Rattle.dp_observer.proofs.WholeParts.{velocity_out}
use Rattle.dp_observer.proofs.motion.velocity_next.Goals as goal

pub returns : goal.returns
returns c =
    velocity_out c.args.vel c.args.beta (c.args.damp *ℤ c.args.vel) c.args.push (c.args.k4 *ℤ c.args.off) c.driven.result c.scaled_down.result
    (to_z w128 (of_z w128 c.sum.result)) (search rules) (search rules) (search rules)
