use Rattle.dp_core.proofs.Completeness.{delivered-fresh}
use Rattle.dp_core.proofs.Limits.{limited}
use Rattle.dp_core.proofs.laws.two_heard_are_fresh.Goals as goal

pub returns : goal.returns
returns c = λ p accepted es one k a b l m sa sb va vb g. delivered-fresh c.two_right_are_fresh.ensures p (limited c.issues_are_within_limits.ensures p accepted) es k a b one l m sa sb va vb g
