use Rattle.std.proofs.Common.{List, ℤ, sym, subst, Option}
use Rattle.std.specs.Prelude.{IfSome}
use Rattle.dp_alloc.specs.Ranges.{IsDemandWithin}
use Rattle.dp_machine.proofs.RunningDemands.{fallen_within, summed, surge_small, sway_small, yaw_small}
use Rattle.dp_machine.proofs.demands.push.Goals as goal

pub moved-requires-clause-surge : goal.moved-requires-clause-surge
moved-requires-clause-surge c = surge_small c.args.ring.now c.args.sums.now c.requires.summed

pub moved-requires-clause-sway : goal.moved-requires-clause-sway
moved-requires-clause-sway c = sway_small c.args.ring.now c.args.sums.now c.requires.summed

pub moved-requires-clause-yaw : goal.moved-requires-clause-yaw
moved-requires-clause-yaw c = yaw_small c.args.ring.now c.args.sums.now c.requires.summed

pub moved-requires-clause-less : goal.moved-requires-clause-less
moved-requires-clause-less c =
    subst (λ (o : Option (List ℤ)). IfSome o IsDemandWithin) (sym c.push_back-oldest.ensures.value)
    (fallen_within c.args.ring.now.capacity c.args.ring.now.items c.args.demand c.requires.summed.within c.requires.within)

pub returns-clause-summed : goal.returns-clause-summed
returns-clause-summed c =
    summed c.args.ring.now c.args.sums.now c.requires.summed c.push_back-oldest.new.self c.moved.result c.args.demand c.push_back-oldest.result c.requires.within
    c.push_back-oldest.ensures.items c.push_back-oldest.ensures.value c.moved.ensures.surge c.moved.ensures.sway c.moved.ensures.yaw
