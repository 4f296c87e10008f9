use Rattle.std.proofs.Common.{rules}
use Rattle.dp_guide.specs.Motion.{stepped}
use Rattle.dp_guide.proofs.Motions.{step_is, step_is_kept}
use Rattle.dp_guide.proofs.ahead.stepped.Goals as goal

pub returns-clause-value : goal.returns-clause-value
unfolding stepped
returns-clause-value c = search rules

pub returns-clause-guided : goal.returns-clause-guided
returns-clause-guided c = step_is c.args.m.now _ c.requires (returns-clause-value c)

pub returns-clause-kept : goal.returns-clause-kept
returns-clause-kept c = step_is_kept c.args.m.now _ c.requires (returns-clause-value c)
