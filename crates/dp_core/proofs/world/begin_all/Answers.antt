use Rattle.std.proofs.Common.{arith}
use Rattle.dp_core.proofs.Lists.{begun_more}
use Rattle.dp_core.proofs.world.begin_all.Goals as goal

pub loop-voter-preserved : goal.loop-voter-preserved
loop-voter-preserved c =
    begun_more c.args.cycle c.as_mut_slice-voter-items.result.now c.loop-voter.voter-items c.loop-voter.voter-index c.voter-item.result c.begin.new.self (omega arith) c.loop-voter.invariant c.voter-item.is c.begin.ensures
