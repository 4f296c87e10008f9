use Rattle.std.proofs.Common.{◌*ℤ◌, refl, sym, arith, FitsSigned}
use Rattle.std.proofs.lemmas.Int.{ints, to_z-of_z}
use mir.Syntax.{w128}
use Rattle.dp_cert.proofs.Lights.{long_square, short_square}
use Rattle.dp_cert.proofs.inside.is_at_most.Goals as goal

pub returns-then-reach-ge-LONG : goal.returns-then-reach-ge-LONG
returns-then-reach-ge-LONG c =
    let same = to_z-of_z w128 c.args.reach c.ranges.reach in
    sym (long_square c.args.form c.args.reach c.requires.form (omega (arith, ints, same, c.if-reach-ge-LONG.true)))

pub overflow_mul-result : goal.overflow_mul-result
overflow_mul-result c =
    let fits = c.ranges.reach in
    let same = to_z-of_z w128 c.args.reach c.ranges.reach in
    simp to_z-of_z (short_square c.args.reach c.requires.reach (omega (arith, ints, same, c.if-reach-ge-LONG.false)))

pub returns : goal.returns
returns c =
    let fits = c.ranges.reach in
    let form_fits = c.ranges.form in
    let same = to_z-of_z w128 c.args.reach c.ranges.reach in
    let square : FitsSigned w128 (c.args.reach *ℤ c.args.reach) = short_square c.args.reach c.requires.reach (omega (arith, ints, same, c.if-reach-ge-LONG.false)) in
    simp to_z-of_z refl
