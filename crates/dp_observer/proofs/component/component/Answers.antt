use Rattle.std.proofs.Common.{rules, subst, sym, ◌∙◌, of_z, to_z}
use mir.Syntax.{w128}
use Rattle.dp_plant.specs.Ranges.{IsComponentWithin}
use Rattle.dp_observer.proofs.NextStates.{component_is}
use Rattle.dp_observer.proofs.component.component.Goals as goal

pub narrowed-requires : goal.narrowed-requires
narrowed-requires c =
    subst IsComponentWithin
    (sym (component_is c.args.gains.now c.args.x c.args.y c.args.push c.offset-off.result (to_z w128 (of_z w128 c.place_next-eta.result))
    (to_z w128 (of_z w128 c.bias_next-beta.result)) (to_z w128 (of_z w128 c.velocity_next-vel.result))
    (to_z w128 (of_z w128 c.wave_next-wave_p.result)) (to_z w128 (of_z w128 c.wave_next-wave_q.result))
    (search rules) (search rules) (search rules) (search rules) (search rules) (search rules))) c.requires.next

pub returns : goal.returns
returns c =
    c.narrowed.ensures
    ∙ component_is c.args.gains.now c.args.x c.args.y c.args.push c.offset-off.result (to_z w128 (of_z w128 c.place_next-eta.result))
    (to_z w128 (of_z w128 c.bias_next-beta.result)) (to_z w128 (of_z w128 c.velocity_next-vel.result))
    (to_z w128 (of_z w128 c.wave_next-wave_p.result)) (to_z w128 (of_z w128 c.wave_next-wave_q.result))
    (search rules) (search rules) (search rules) (search rules) (search rules) (search rules)
