use Rattle.dp_app.proofs.Asking.{asked_once, something_asked}
use Rattle.dp_app.proofs.laws.one_task_is_asked.Goals as goal

pub returns-clause-some : goal.returns-clause-some
returns-clause-some c = something_asked

pub returns-clause-one : goal.returns-clause-one
returns-clause-one c = asked_once
