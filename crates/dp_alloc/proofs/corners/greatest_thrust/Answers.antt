use Rattle.std.proofs.Common.{◌*ℤ◌, rules}
use Rattle.dp_plant.specs.Vectors.{entry}
use Rattle.dp_alloc.specs.Corners.{greatest_thrust}
use Rattle.dp_alloc.proofs.CornerLaws.{greatest_is}
use Rattle.dp_alloc.proofs.corners.greatest_thrust.Goals as goal

pub greater-yaw-requires-clause-share : goal.greater-yaw-requires-clause-share
greater-yaw-requires-clause-share c = search (rules, c.requires.shares.shares 2)

pub returns : goal.returns
unfolding greatest_thrust
returns c =
    let r = c.args.row.now in
    let lo = c.args.bounds.now.lo in
    let hi = c.args.bounds.now.hi in
    let at = greatest_is (entry r 0 *ℤ entry lo 0) (entry r 0 *ℤ entry hi 0) (entry r 1 *ℤ entry lo 1) (entry r 1 *ℤ entry hi 1) (entry r 2 *ℤ entry lo 2) (entry r 2 *ℤ entry hi 2) in
    search (rules, at)
