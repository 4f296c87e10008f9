use Rattle.dp_core.proofs.Worlds.{sent-next, sent-none_yet}
use Rattle.dp_core.proofs.world.deliver_all.Goals as goal

pub loop-k-init : goal.loop-k-init
loop-k-init c = sent-none_yet c.args.from c.args.issue.now c.args.voters.now

pub loop-k-preserved : goal.loop-k-preserved
loop-k-preserved c =
    sent-next c.args.from c.args.issue.now c.loop-k.k c.args.voters.now c.loop-k.voters c.deliver_at.new.voters c.loop-k.invariant c.deliver_at.ensures
