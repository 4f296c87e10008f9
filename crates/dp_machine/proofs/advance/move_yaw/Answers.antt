use Rattle.std.proofs.Common.{◌≡◌, rules, ◌∙◌, w64, of_z, to_z}
use Rattle.std.proofs.lemmas.Int.{to_z-of_z}
use Rattle.dp_machine.proofs.YawRanges.{next_stays, next_wide, same_next}
use Rattle.dp_machine.proofs.advance.move_yaw.Goals as goal

pub update-requires-clause-next : goal.update-requires-clause-next
update-requires-clause-next c =
    let j : to_z w64 (of_z w64 c.turning_push.result) ≡ c.turning_push.result = to_z-of_z w64 c.turning_push.result (search rules) in
    next_wide c.args.plant.now.yaw c.args.yaw.now c.args.heading _ c.turning_push.result j c.requires.plant.yaw c.requires.yaw c.turning_push.ensures.within

pub returns-clause-value : goal.returns-clause-value
returns-clause-value c =
    let j : to_z w64 (of_z w64 c.turning_push.result) ≡ c.turning_push.result = to_z-of_z w64 c.turning_push.result (search rules) in
    same_next c.args.plant.now.yaw c.args.yaw.now c.args.heading _ _ _ (j ∙ c.turning_push.ensures.value) c.update.ensures

pub returns-clause-within : goal.returns-clause-within
returns-clause-within c =
    let j : to_z w64 (of_z w64 c.turning_push.result) ≡ c.turning_push.result = to_z-of_z w64 c.turning_push.result (search rules) in
    next_stays c.args.plant.now.yaw c.args.yaw.now c.args.heading _ c.turning_push.result _ j c.update.ensures c.requires.plant.yaw c.requires.yaw c.turning_push.ensures.within
