use Rattle.std.proofs.Common.{◌*ℤ◌, rules}
use Rattle.dp_plant.specs.Vectors.{entry}
use Rattle.dp_alloc.specs.Corners.{least_thrust}
use Rattle.dp_alloc.proofs.CornerLaws.{least_is}
use Rattle.dp_alloc.proofs.corners.least_thrust.Goals as goal

pub lesser-yaw-requires-clause-share : goal.lesser-yaw-requires-clause-share
lesser-yaw-requires-clause-share c = search (rules, c.requires.shares.shares 2)

pub returns : goal.returns
unfolding least_thrust
returns c =
    let r = c.args.row.now in
    let lo = c.args.bounds.now.lo in
    let hi = c.args.bounds.now.hi in
    let at = least_is (entry r 0 *ℤ entry lo 0) (entry r 0 *ℤ entry hi 0) (entry r 1 *ℤ entry lo 1) (entry r 1 *ℤ entry hi 1) (entry r 2 *ℤ entry lo 2) (entry r 2 *ℤ entry hi 2) in
    search (rules, at)
