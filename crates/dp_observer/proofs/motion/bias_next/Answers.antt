use Rattle.std.proofs.Common.{rules, ◌*ℤ◌, of_z, to_z}
use mir.Syntax.{w128}
use Rattle.dp_observer.proofs.WholeParts.{bias_out}
use Rattle.dp_observer.proofs.motion.bias_next.Goals as goal

pub returns : goal.returns
returns c =
    bias_out c.args.beta (c.args.leak *ℤ c.args.beta) (c.args.k3 *ℤ c.args.off) c.difference-change.result c.scaled_down.result (to_z w128 (of_z w128 c.sum.result))
    (search rules) (search rules) (search rules)
