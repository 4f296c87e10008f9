use Rattle.std.proofs.Common.{rules}
use Rattle.dp_pid.proofs.AxisAnswers.{plane_high, plane_low, plane_within}
use Rattle.dp_pid.proofs.axis.answered_on_plane.Goals as goal

pub returns-then-whole-axis : goal.returns-then-whole-axis
returns-then-whole-axis c = plane_low c.args.axis c.args.asked c.divided_twice-whole.result c.demanded.result c.requires.axis (search rules) (search rules) (search rules) (search rules)

pub returns-then-whole-axis-2 : goal.returns-then-whole-axis-2
returns-then-whole-axis-2 c = plane_within c.args.axis c.args.asked c.divided_twice-whole.result c.demanded-then-whole-axis-2.result (search rules) (search rules) (search rules) (search rules) (search rules)

pub returns-else-whole-axis-2 : goal.returns-else-whole-axis-2
returns-else-whole-axis-2 c =
    plane_high c.args.axis c.args.asked c.divided_twice-whole.result c.times_scale_twice.result c.demanded-else-whole-axis-2.result c.requires.axis (search rules) (search rules) (search rules) (search rules) (search rules)
