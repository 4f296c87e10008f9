use Rattle.std.proofs.Common.{◌≡◌, map, take}
use Rattle.dp_alloc.specs.Thrust.{thrust_of}
use Rattle.dp_alloc.proofs.thrust.add_thrusts.Given as goal

abbrev pub invariant-loop-row : goal.invariant-loop-row
invariant-loop-row l = l.forces.items ≡ map (thrust_of l.demand) (take l.row-index l.row-items)
