use Rattle.dp_reftest.proofs.Testing.{begun}
use Rattle.dp_reftest.proofs.reference.RefTest.new.Goals as goal

pub invariant_of-result : goal.invariant_of-result
invariant_of-result c = begun c.args.limits.now c.in-Ok.ring c.requires c.in-Ok.ensures
