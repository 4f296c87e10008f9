use Rattle.std.proofs.Common.{rules}
use Rattle.dp_pid.specs.Body.{plane_axis}
use Rattle.dp_pid.proofs.AxisAnswers.{plane_answer_at}
use Rattle.dp_pid.proofs.AxisRanges.{is_plane_axis}
use Rattle.dp_pid.proofs.law.plane_answer.Goals as goal

pub on_plane-requires-clause-axis : goal.on_plane-requires-clause-axis
on_plane-requires-clause-axis c = rw c.plane_axis-axis.ensures (is_plane_axis c.args.g.now c.args.b.now c.args.j c.requires.gains c.requires.limits c.requires.axis)

pub returns : goal.returns
returns c = plane_answer_at c.plane_axis-axis.result (plane_axis c.args.g.now c.args.b.now c.args.j) c.args.along _ _ c.on_plane.result c.plane_axis-axis.ensures (search rules) c.on_plane.ensures
