use Rattle.dp_guide.proofs.Motions.{begun_kept}
use Rattle.dp_guide.proofs.guide.Guide.new.Goals as goal

pub invariant_of-result : goal.invariant_of-result
invariant_of-result c = begun_kept c.args.limits.now c.args.at.now c.requires.limits c.requires.at
