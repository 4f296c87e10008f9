use Rattle.std.proofs.Common.{rules}
use Rattle.dp_fuse.proofs.Lists.{angle_is}
use Rattle.dp_fuse.proofs.angles.fused_turn.Goals as goal

pub returns-clause-value : goal.returns-clause-value
returns-clause-value c = angle_is c.args.base c.args.a c.args.b c.args.c c.fuse-turned.result _ (search rules) (search rules)
