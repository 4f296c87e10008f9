use Rattle.std.proofs.Common.{◌≡◌, take}
use Rattle.circular_buffer.specs.Buffer.{buffer}
use Rattle.dp_reftest.specs.Running.{IsRunning}
use Rattle.dp_reftest.proofs.reference.fill.Given as goal

-- the places taken so far are in the ring, and the sums are theirs
abbrev pub invariant-loop-at : goal.invariant-loop-at
invariant-loop-at l = (l.ring ≡ buffer (take l.at-index l.places) l.initial.ring.capacity) × IsRunning l.limit l.ring l.sums
