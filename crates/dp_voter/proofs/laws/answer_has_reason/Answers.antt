use Rattle.dp_voter.proofs.Reasons.{only_answer, reason}
use Rattle.dp_voter.proofs.laws.answer_has_reason.Goals as goal

pub returns : goal.returns
returns c = record { reason = reason; only = only_answer }
