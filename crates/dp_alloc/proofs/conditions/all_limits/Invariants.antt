use Rattle.std.proofs.Common.{◌≡◌, take, map}
use Rattle.dp_alloc.specs.Conditions.{limits_of}
use Rattle.dp_alloc.proofs.conditions.all_limits.Given as goal

abbrev pub invariant-loop-thruster : goal.invariant-loop-thruster
invariant-loop-thruster l = l.limits.items ≡ map (limits_of l.lost) (take l.thruster-index l.thrusters)
