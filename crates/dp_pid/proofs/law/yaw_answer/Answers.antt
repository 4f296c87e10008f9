use Rattle.std.proofs.Common.{rules}
use Rattle.dp_pid.specs.Body.{yaw_axis}
use Rattle.dp_pid.proofs.AxisAnswers.{yaw_answer_at}
use Rattle.dp_pid.proofs.AxisRanges.{is_yaw_axis}
use Rattle.dp_pid.proofs.law.yaw_answer.Goals as goal

pub in_yaw-requires-clause-axis : goal.in_yaw-requires-clause-axis
in_yaw-requires-clause-axis c = rw c.yaw_axis-axis.ensures (is_yaw_axis c.args.y.now c.args.b.now c.requires.gains c.requires.limits)

pub returns : goal.returns
returns c = yaw_answer_at c.yaw_axis-axis.result (yaw_axis c.args.y.now c.args.b.now) c.args.along _ _ c.in_yaw.result c.yaw_axis-axis.ensures (search rules) c.in_yaw.ensures
