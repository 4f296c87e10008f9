use Rattle.std.proofs.Common.{arith, ◌≡◌, ◌∙◌, ap, ℤ, ◌-ℤ◌, neg_ℤ, FitsSigned, pos}
use Rattle.std.proofs.lemmas.Int.{ints, to_z-of_z}
use Rattle.std.specs.Int.{int_max}
use mir.Syntax.{w128}
use Rattle.dp_guide.proofs.velocity.lowest.Goals as goal

pub returns : goal.returns
returns c =
    let fr = c.ranges.rate in
    let fa = c.ranges.accel in
    let fv = c.ranges.v in
    let fs : FitsSigned w128 (c.args.v -ℤ c.args.accel) = omega (arith, ints) in
    let fn : FitsSigned w128 (pos 0 -ℤ c.args.rate) = omega (arith, ints) in
    let fm : FitsSigned w128 c.max.result = record { sfits = c.max.type_inv } in
    let e = simp to_z-of_z at c.max.ensures.value in
    let z : pos 0 -ℤ c.args.rate ≡ neg_ℤ c.args.rate = omega (arith, ints) in
    simp to_z-of_z (e ∙ ap (λ (x : ℤ). int_max (c.args.v -ℤ c.args.accel) x) z)
