use Rattle.std.proofs.Common.{rules}
use Rattle.dp_reftest.proofs.Testing.{one_taken}
use Rattle.dp_reftest.proofs.reference.RefTest.take.Goals as goal

pub invariant_of-self-2 : goal.invariant_of-self-2
invariant_of-self-2 c =
    let t = c.self.inside in
    one_taken t.limits c.args.cycle t.last t.ring c.self.invariant.limits c.self.invariant.capacity (search rules)
    c.push.new.ring c.push.new.sums c.in-Some.at (search rules) c.push.ensures.items (search rules)
