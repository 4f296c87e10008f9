use Rattle.std.proofs.Common.{rules}
use Rattle.dp_fuse.proofs.Means.{mean_is_bounded}
use Rattle.dp_fuse.proofs.weighted.wide_mean.Goals as goal

pub returns-clause-value : goal.returns-clause-value
returns-clause-value c = search rules

pub returns-clause-bound : goal.returns-clause-bound
returns-clause-bound c = mean_is_bounded c.args.a c.args.b _ (returns-clause-value c) c.requires.first c.requires.second
