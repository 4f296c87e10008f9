use Rattle.std.proofs.Common.{rules}
use Rattle.dp_pid.proofs.AxisAnswers.{same_yaw_answer}
use Rattle.dp_pid.proofs.axis.Axis.in_yaw.Goals as goal

pub returns : goal.returns
returns c = same_yaw_answer c.args.self _ _ c.answered_in_yaw.result (search rules) c.answered_in_yaw.ensures
