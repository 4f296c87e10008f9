use Rattle.std.proofs.Common.{rules}
use Rattle.dp_fuse.proofs.Means.{speed_within}
use Rattle.dp_fuse.proofs.gusts.fused_speed.Goals as goal

pub returns-clause-within : goal.returns-clause-within
returns-clause-within c = speed_within c.args.a c.args.b c.args.c _ (search rules) c.requires.first c.requires.second c.requires.third
