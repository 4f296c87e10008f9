use Rattle.std.proofs.Common.{◌≡◌, map, take}
use Rattle.dp_core.specs.WorldState.{voter_of}
use Rattle.dp_core.proofs.world.voters_of.Given as goal

abbrev pub invariant-loop-thruster : goal.invariant-loop-thruster
invariant-loop-thruster l = l.voters.items ≡ map voter_of (take l.thruster-index l.thruster-items)
