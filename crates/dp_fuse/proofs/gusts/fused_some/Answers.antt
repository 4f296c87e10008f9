use Rattle.std.proofs.Common.{rules}
use Rattle.dp_fuse.proofs.Lists.{gust_is}
use Rattle.dp_fuse.proofs.gusts.fused_some.Goals as goal

pub returns-clause-value : goal.returns-clause-value
returns-clause-value c = gust_is c.args.base c.args.a c.args.b c.args.c c.fused_angle-angle.result c.fused_speed.result _ (search rules) (search rules) (search rules)
