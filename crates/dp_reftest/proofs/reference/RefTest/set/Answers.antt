use Rattle.std.proofs.Common.{w64, of_z, to_z}
use Rattle.dp_reftest.proofs.Rings.{none_running}
use Rattle.dp_reftest.proofs.reference.RefTest.set.Goals as goal

pub fill-requires-clause-running : goal.fill-requires-clause-running
fill-requires-clause-running c =
    none_running (to_z w64 (of_z w64 c.self.inside.limits.jump)) c.clear.new.self c.self.inside.ring.capacity c.clear.ensures c.self.invariant.running.capacity
