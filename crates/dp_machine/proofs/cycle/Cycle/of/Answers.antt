use Rattle.dp_machine.proofs.Certified.{own_within}
use Rattle.dp_machine.proofs.OneCycle.{cycle_demand, cycle_limited, cycle_next}
use Rattle.dp_machine.proofs.cycle.Cycle.of.Goals as goal

pub asked_of-requires-clause-plane : goal.asked_of-requires-clause-plane
asked_of-requires-clause-plane c =
    own_within c.args.plant.now c.args.accepted.now c.requires.accepted c.inside_is_narrow.ensures.within c.args.now.now.plane c.requires.now.plane

pub returns-clause-demand : goal.returns-clause-demand
returns-clause-demand c = cycle_demand c.args.plant.now c.args.at.now c.args.now.now c.args.sensed c.args.pair c.args.place
    c.push_by-wind.result c.asked_of.result.a c.push_by-wind.ensures.value c.asked_of.ensures.demand

pub returns-clause-limited : goal.returns-clause-limited
returns-clause-limited c = cycle_limited c.args.plant.now c.args.at.now c.args.now.now c.args.sensed c.args.pair c.args.place
    c.push_by-wind.result c.asked_of.result.a c.push_by-wind.ensures.value c.asked_of.ensures.demand c.asked_of.result.limited c.asked_of.ensures.limited

pub returns-clause-next : goal.returns-clause-next
returns-clause-next c = cycle_next c.args.plant.now c.args.at.now c.args.now.now c.args.sensed c.args.pair c.args.place
    c.push_by-wind.result c.asked_of.result.a c.push_by-wind.ensures.value c.asked_of.ensures.demand
    c.move_plane.new.plane c.move_yaw.new.yaw c.count_on.new.now
    c.move_plane.ensures.value c.move_yaw.ensures.value c.count_on.ensures.value
