use Rattle.std.proofs.Common.{rules, subst, sym, ◌∙◌, of_z, to_z}
use mir.Syntax.{w128}
use Rattle.dp_plant.specs.YawRanges.{IsYawWithin}
use Rattle.dp_observer.proofs.NextStates.{yaw_is}
use Rattle.dp_observer.proofs.yaw.next.Goals as goal

pub narrowed-requires : goal.narrowed-requires
narrowed-requires c =
    subst IsYawWithin
    (sym (yaw_is c.args.gains.now c.args.x.now c.args.h c.args.push c.offset-off.result c.place_next.result
    (to_z w128 (of_z w128 c.turned-psi.result)) (to_z w128 (of_z w128 c.bias_next-beta.result)) c.scaled_push.result (to_z w128 (of_z w128 c.velocity_next-rate.result))
    c.offset-off.ensures.value (search rules) (search rules) (search rules) (search rules) (search rules))) c.requires.next

pub returns : goal.returns
returns c =
    c.narrowed.ensures
    ∙ yaw_is c.args.gains.now c.args.x.now c.args.h c.args.push c.offset-off.result c.place_next.result
    (to_z w128 (of_z w128 c.turned-psi.result)) (to_z w128 (of_z w128 c.bias_next-beta.result)) c.scaled_push.result (to_z w128 (of_z w128 c.velocity_next-rate.result))
    c.offset-off.ensures.value (search rules) (search rules) (search rules) (search rules) (search rules)
