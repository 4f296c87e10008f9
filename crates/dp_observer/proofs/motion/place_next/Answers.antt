use Rattle.std.proofs.Common.{rules, ◌+ℤ◌, ◌*ℤ◌, of_z, to_z}
use mir.Syntax.{w128}
use Rattle.dp_observer.proofs.WholeParts.{place_out}
use Rattle.dp_observer.proofs.motion.place_next.Goals as goal

pub returns : goal.returns
returns c = place_out (c.args.eta +ℤ c.args.vel) (c.args.k2 *ℤ c.args.off) c.scaled_down.result (to_z w128 (of_z w128 c.sum.result)) (search rules) (search rules)
