use Rattle.std.proofs.Common.{arith, FitsSigned, ◌*ℤ◌}
use Rattle.std.proofs.lemmas.Int.{ints, to_z-of_z}
use mir.Syntax.{w128}
use Rattle.dp_form.proofs.Products.{two_within, three_within}
use Rattle.dp_form.proofs.residual.product.Goals as goal

pub overflow_mul-result : goal.overflow_mul-result
overflow_mul-result c =
    let fa = c.ranges.a in let fb = c.ranges.b in let fd = c.ranges.d in
    let ga : FitsSigned w128 c.args.a = omega (arith, ints) in
    let gb : FitsSigned w128 c.args.b = omega (arith, ints) in
    let gd : FitsSigned w128 c.args.d = omega (arith, ints) in
    let two = two_within c.args.a c.args.b c.requires.a_small c.requires.b_small in
    let p : FitsSigned w128 (c.args.a *ℤ c.args.b) = omega (arith, ints) in
    let three = three_within c.args.d c.args.a c.args.b c.requires.d_small c.requires.a_small c.requires.b_small in
    let q : FitsSigned w128 (c.args.d *ℤ (c.args.a *ℤ c.args.b)) = omega (arith, ints) in
    simp to_z-of_z q

pub returns : goal.returns
returns c =
    let fa = c.ranges.a in let fb = c.ranges.b in let fd = c.ranges.d in
    let ga : FitsSigned w128 c.args.a = omega (arith, ints) in
    let gb : FitsSigned w128 c.args.b = omega (arith, ints) in
    let gd : FitsSigned w128 c.args.d = omega (arith, ints) in
    let two = two_within c.args.a c.args.b c.requires.a_small c.requires.b_small in
    let p : FitsSigned w128 (c.args.a *ℤ c.args.b) = omega (arith, ints) in
    let three = three_within c.args.d c.args.a c.args.b c.requires.d_small c.requires.a_small c.requires.b_small in
    let q : FitsSigned w128 (c.args.d *ℤ (c.args.a *ℤ c.args.b)) = omega (arith, ints) in
    record { value = simp to_z-of_z; small = simp to_z-of_z three }
