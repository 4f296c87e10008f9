use Rattle.std.proofs.Common.{arith}
use Rattle.dp_machine.proofs.Masks.{one_group}
use Rattle.dp_machine.proofs.groups.heard_next.Goals as goal

pub loop-g-preserved : goal.loop-g-preserved
loop-g-preserved c =
    let i = c.loop-g.invariant in
    let more = one_group c.args.mask c.loop-g.g c.loop-g.lost c.lost_bit.result c.args.group.now _ c.told-group c.loop-g-test.true i.few i.low i.is c.lost_bit.ensures.bound c.lost_bit.ensures.value in
    record { few = omega (arith, i.few); low = more.0; is = more.1 }
