use Rattle.std.proofs.Common.{rules}
use Rattle.dp_machine.proofs.Certified.{own_cycle, own_within}
use Rattle.dp_machine.proofs.advance.move_plane.Goals as goal

pub update-requires-clause-state : goal.update-requires-clause-state
update-requires-clause-state c =
    own_within c.args.plant.now c.args.accepted.now c.requires.accepted c.inside_is_narrow.ensures.within c.args.plane.now c.requires.plane

pub update-requires-clause-next : goal.update-requires-clause-next
update-requires-clause-next c =
    own_within c.args.plant.now c.args.accepted.now c.requires.accepted c.inside_is_narrow.ensures.within _
    (own_cycle c.args.plant.now c.args.accepted.now c.requires.accepted c.cycle_stays_inside.ensures c.args.plane.now c.args.place _ c.args.pair
    c.requires.place (search rules) c.requires.pair c.requires.plane)

pub returns-clause-inside : goal.returns-clause-inside
returns-clause-inside c =
    rw c.update.ensures (own_cycle c.args.plant.now c.args.accepted.now c.requires.accepted c.cycle_stays_inside.ensures c.args.plane.now c.args.place _ c.args.pair
    c.requires.place (search rules) c.requires.pair c.requires.plane)
