use Rattle.std.proofs.Common.{◌≡◌, take}
use Rattle.circular_buffer.specs.Buffer.{buffer}
use Rattle.dp_machine.specs.KeptDemands.{AreSummed}
use Rattle.dp_machine.proofs.demands.push_all.Given as goal

-- the demands taken so far are in the ring, and the sums are theirs
abbrev pub invariant-loop-demand : goal.invariant-loop-demand
invariant-loop-demand l = (l.ring ≡ buffer (take l.demand-index l.demands) l.initial.ring.capacity) × AreSummed l.ring l.sums
