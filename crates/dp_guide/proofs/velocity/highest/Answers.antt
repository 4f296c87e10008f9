use Rattle.std.proofs.Common.{arith, ◌+ℤ◌, FitsSigned}
use Rattle.std.proofs.lemmas.Int.{ints, to_z-of_z}
use mir.Syntax.{w128}
use Rattle.dp_guide.proofs.velocity.highest.Goals as goal

pub returns : goal.returns
returns c =
    let fr = c.ranges.rate in
    let fa = c.ranges.accel in
    let fv = c.ranges.v in
    let fs : FitsSigned w128 (c.args.v +ℤ c.args.accel) = omega (arith, ints) in
    let fm : FitsSigned w128 c.min.result = record { sfits = c.min.type_inv } in
    let e = simp to_z-of_z at c.min.ensures.value in
    simp to_z-of_z e
