use Rattle.std.proofs.Common.{ap, ◌∙◌, arith, ℤ, ◌*ℤ◌, FitsSigned}
use Rattle.std.proofs.lemmas.Int.{ints, to_z-of_z}
use mir.Syntax.{w128}
use Rattle.dp_fixed.specs.Scale.{full_scale}
use Rattle.dp_fixed.specs.Division.{ceil_of}
use Rattle.dp_cert.proofs.bound.gain.Goals as goal

pub returns : goal.returns
returns c =
    let fw = c.ranges.weight in
    let fb = c.ranges.b in
    let fg = c.ranges.gap in
    let fd : FitsSigned w128 (full_scale *ℤ c.args.gap) = omega (arith, ints) in
    let fp : FitsSigned w128 c.product.result = record { sfits = c.product.type_inv } in
    let fr : FitsSigned w128 c.ceil_div.result = record { sfits = c.ceil_div.type_inv } in
    let product = simp to_z-of_z at c.product.ensures.value in
    let value = simp to_z-of_z at c.ceil_div.ensures.value in
    simp to_z-of_z (value ∙ ap (λ (z : ℤ). ceil_of z (full_scale *ℤ c.args.gap)) product)
