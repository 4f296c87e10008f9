use Rattle.std.proofs.Common.{◌≡◌, arith, ℤ, ◌-ℤ◌, FitsSigned}
use Rattle.std.proofs.lemmas.Int.{ints, clamps, to_z-of_z}
use Rattle.std.specs.Int.{int_min, int_max}
use mir.Syntax.{w64, w128}
use Rattle.dp_drift.proofs.steps.lacking.Goals as goal

lacking_is : (m lo hi a b d : ℤ) → a ≡ int_min m hi → b ≡ int_max a lo → d ≡ b -ℤ m → d ≡ int_max lo (int_min m hi) -ℤ m
lacking_is m lo hi a b d e f g = omega (arith, ints, clamps)

pub returns-clause-value : goal.returns-clause-value
returns-clause-value c =
    let fm = c.ranges.mean in
    let fl = c.ranges.lo in
    let fh = c.ranges.hi in
    let gm : FitsSigned w128 c.args.mean = omega (arith, ints) in
    let f1 : FitsSigned w64 c.min.result = record { sfits = c.min.type_inv } in
    let f2 : FitsSigned w64 c.max-given.result = record { sfits = c.max-given.type_inv } in
    let g2 : FitsSigned w128 c.max-given.result = omega (arith, ints) in
    let fd : FitsSigned w128 c.difference.result = record { sfits = c.difference.type_inv } in
    let a = simp to_z-of_z at c.min.ensures.value in
    let b = simp to_z-of_z at c.max-given.ensures.value in
    let d = simp to_z-of_z at c.difference.ensures.value in
    simp to_z-of_z (lacking_is c.args.mean c.args.lo c.args.hi c.min.result c.max-given.result c.difference.result a b d)
