use Rattle.std.proofs.Common.{rules}
use Rattle.dp_pid.proofs.ThreeAnswers.{issued, surge_answer, sway_answer, yaw_answer}
use Rattle.dp_pid.proofs.law.issue.Goals as goal

pub returns : goal.returns
returns c =
    let surge = surge_answer c.args.g.now c.args.b.now c.args.setpoint.now c.args.pair c.args.wind c.args.plane.now c.in_body-body.result.surge _ c.plane_answer-surge.result
    c.in_body-body.ensures.surge (search rules) c.plane_answer-surge.ensures in
    let sway = sway_answer c.args.g.now c.args.b.now c.args.setpoint.now c.args.pair c.args.wind c.args.plane.now c.in_body-body.result.sway _ c.plane_answer-sway.result
    c.in_body-body.ensures.sway (search rules) c.plane_answer-sway.ensures in
    let turn = yaw_answer c.args.y.now c.args.b.now c.args.setpoint.now c.args.wind c.args.yaw.now c.in_yaw-turn.result _ c.yaw_answer-turning.result
    c.in_yaw-turn.ensures.value (search rules) c.yaw_answer-turning.ensures in
    let all = issued c.args.g.now c.args.y.now c.args.b.now c.args.plane.now c.args.yaw.now c.args.setpoint.now c.args.pair c.args.wind
    c.plane_answer-surge.result c.plane_answer-sway.result c.yaw_answer-turning.result c.together.result.a c.together.result.limited c.requires.limits c.requires.yaw_limits surge sway turn c.together.ensures.a c.together.ensures.limited in
    record { a = all.0; limited = all.1; in_box = all.2; within = all.3 }
