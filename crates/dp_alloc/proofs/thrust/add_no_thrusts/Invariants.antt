use Rattle.std.proofs.Common.{◌≡◌, map, pos, take}
use Rattle.dp_alloc.proofs.thrust.add_no_thrusts.Given as goal

abbrev pub invariant-loop : goal.invariant-loop
invariant-loop l = l.forces.items ≡ map (λ t. pos 0) (take l.index l.items)
