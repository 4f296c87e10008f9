use Rattle.std.proofs.Common.{rules}
use Rattle.dp_pid.proofs.AxisAnswers.{turn_high, turn_low, turn_within}
use Rattle.dp_pid.proofs.axis.answered_in_yaw.Goals as goal

pub returns-then-whole-axis : goal.returns-then-whole-axis
returns-then-whole-axis c = turn_low c.args.axis c.args.asked c.divided-whole.result c.demanded.result c.requires.axis (search rules) (search rules) (search rules) (search rules)

pub returns-then-whole-axis-2 : goal.returns-then-whole-axis-2
returns-then-whole-axis-2 c = turn_within c.args.axis c.args.asked c.divided-whole.result c.demanded-then-whole-axis-2.result (search rules) (search rules) (search rules) (search rules) (search rules)

pub returns-else-whole-axis-2 : goal.returns-else-whole-axis-2
returns-else-whole-axis-2 c =
    turn_high c.args.axis c.args.asked c.divided-whole.result c.times_scale.result c.demanded-else-whole-axis-2.result c.requires.axis (search rules) (search rules) (search rules) (search rules) (search rules)
