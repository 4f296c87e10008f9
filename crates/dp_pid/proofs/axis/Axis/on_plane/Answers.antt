use Rattle.std.proofs.Common.{rules}
use Rattle.dp_pid.proofs.AxisAnswers.{same_plane_answer}
use Rattle.dp_pid.proofs.axis.Axis.on_plane.Goals as goal

pub returns : goal.returns
returns c = same_plane_answer c.args.self _ _ c.answered_on_plane.result (search rules) c.answered_on_plane.ensures
