use Rattle.std.proofs.Common.{arith, ◌*ℤ◌, FitsSigned}
use Rattle.std.proofs.lemmas.Int.{ints, to_z-of_z}
use mir.Syntax.{w128}
use Rattle.dp_form.proofs.Order.{mul_pos}
use Rattle.dp_form.proofs.maker.step_of.Goals as goal

pub returns-clause-low : goal.returns-clause-low
returns-clause-low c =
    let fd = c.ranges.d in let fs = c.ranges.scale in
    let p = mul_pos c.args.d c.args.scale (omega (arith, ints)) (omega (arith, ints)) in
    let room = c.requires.room in
    let f : FitsSigned w128 (c.args.d *ℤ c.args.scale) = omega (arith, ints, p, room) in
    simp to_z-of_z (omega (arith, ints, p))
