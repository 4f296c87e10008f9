use Rattle.std.proofs.Common.{ℤ, unsigned_abs, arith, ap, ◌≤◌, ◌^◌, ◌*ℤ◌, FitsSigned, ◌∙◌}
use Rattle.std.proofs.Math.Nat.{mul-le-mul_right}
use Rattle.std.proofs.lemmas.Int.{ints, to_z-of_z, unsigned_abs-mul}
use Rattle.std.proofs.lemmas.Nat.{mul-le}
use mir.Syntax.{w128}
use Rattle.dp_guide.proofs.stopping.times.Goals as goal

product_fits : (a b : ℤ) → unsigned_abs a ≤ 2 ^ 31 → unsigned_abs b ≤ 2 ^ 63 → FitsSigned w128 (a *ℤ b)
product_fits a b h k =
    let m = mul-le (unsigned_abs a) (unsigned_abs b) (2 ^ 31) (2 ^ 63) h k in
    let e = unsigned_abs-mul a b in
    omega (arith, ints, m, e)

pub overflow_mul-result : goal.overflow_mul-result
overflow_mul-result c =
    let fa = c.ranges.a in
    let fb = c.ranges.b in
    let f = product_fits c.args.a c.args.b c.requires.first c.requires.second in
    simp to_z-of_z f

pub returns-clause-value : goal.returns-clause-value
returns-clause-value c =
    let fa = c.ranges.a in
    let fb = c.ranges.b in
    let f = product_fits c.args.a c.args.b c.requires.first c.requires.second in
    simp to_z-of_z

pub returns-clause-small : goal.returns-clause-small
returns-clause-small c =
    let size = ap unsigned_abs (returns-clause-value c) ∙ unsigned_abs-mul c.args.a c.args.b in
    omega (arith, size, mul-le-mul_right (unsigned_abs c.args.b) c.requires.first)
