use Rattle.std.proofs.Common.{◌≡◌, ◌∙◌, arith, ap, ℤ, ◌+ℤ◌, ◌-ℤ◌, ◌*ℤ◌, FitsSigned}
use Rattle.std.proofs.lemmas.Int.{ints, to_z-of_z}
use mir.Syntax.{w64, w128}
use Rattle.dp_fixed.specs.{full_scale}
use Rattle.dp_fixed.specs.{floor_of}
use Rattle.dp_drift.proofs.steps.velocity_next.Goals as goal

pub returns-clause-value : goal.returns-clause-value
returns-clause-value c =
    let fm = c.ranges.damp in
    let fu = c.ranges.u in
    let fv = c.ranges.v in
    let low = c.requires.damp_low in
    let high = c.requires.damp_high in
    let gs : FitsSigned w64 (full_scale -ℤ c.args.damp) = omega (arith, ints, low, high) in
    let f1 : FitsSigned w128 c.product.result = record { sfits = c.product.type_inv } in
    let f2 : FitsSigned w128 c.product-2.result = record { sfits = c.product-2.type_inv } in
    let f3 : FitsSigned w128 c.sum.result = record { sfits = c.sum.type_inv } in
    let f4 : FitsSigned w128 c.floor_div.result = record { sfits = c.floor_div.type_inv } in
    let a = simp to_z-of_z at c.product.ensures.value in
    let b = simp to_z-of_z at c.product-2.ensures.value in
    let d = simp to_z-of_z at c.sum.ensures.value in
    let e = simp to_z-of_z at c.floor_div.ensures.value in
    let s : c.sum.result ≡ (full_scale -ℤ c.args.damp) *ℤ c.args.v +ℤ full_scale *ℤ c.args.u = omega (arith, ints, a, b, d) in
    simp to_z-of_z (e ∙ ap (λ (z : ℤ). floor_of z full_scale) s)
