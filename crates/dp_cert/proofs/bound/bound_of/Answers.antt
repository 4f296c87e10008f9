use Rattle.std.proofs.Common.{refl, arith, FitsSigned}
use Rattle.std.proofs.lemmas.Int.{ints, to_z-of_z}
use mir.Syntax.{w64, w128}
use Rattle.dp_cert.specs.Bound.{bound}
use Rattle.dp_cert.proofs.bound.bound_of.Goals as goal

pub returns : goal.returns
unfolding bound
returns c =
    let cert = c.args.c.now in
    let sized = c.requires.numbers in
    let r1 : FitsSigned w64 cert.rho = omega (arith, ints, sized.rho.low, sized.rho.high) in
    let b1 : FitsSigned w64 cert.b = omega (arith, ints, sized.b.low, sized.b.high) in
    let q1 : FitsSigned w64 cert.r = omega (arith, ints, sized.r.low, sized.r.high) in
    let f0 : FitsSigned w128 c.sizes-surge.result.0 = omega (arith, ints, c.sizes-surge.ensures.surge_bound.low, c.sizes-surge.ensures.surge_bound.high) in
    let f1 : FitsSigned w128 c.sizes-surge.result.1 = omega (arith, ints, c.sizes-surge.ensures.sway_bound.low, c.sizes-surge.ensures.sway_bound.high) in
    let f2 : FitsSigned w128 c.weight-weight.result = record { sfits = c.weight-weight.type_inv } in
    let f3 : FitsSigned w128 c.margin-gap.result = record { sfits = c.margin-gap.type_inv } in
    let f4 : FitsSigned w128 c.wide.result = record { sfits = c.wide.type_inv } in
    let f5 : FitsSigned w128 c.wide-2.result = record { sfits = c.wide-2.type_inv } in
    let f6 : FitsSigned w128 c.gain-gain.result = record { sfits = c.gain-gain.type_inv } in
    let f7 : FitsSigned w128 c.rounded-rounded.result = record { sfits = c.rounded-rounded.type_inv } in
    let f8 : FitsSigned w128 c.offset.result = record { sfits = c.offset.type_inv } in
    let surge = c.sizes-surge.ensures.surge in
    let sway = c.sizes-surge.ensures.sway in
    let weight = simp to_z-of_z at c.weight-weight.ensures.value in
    let gap = simp to_z-of_z at c.margin-gap.ensures.value in
    let b = simp to_z-of_z at c.wide.ensures in
    let r = simp to_z-of_z at c.wide-2.ensures in
    let gain = simp to_z-of_z at c.gain-gain.ensures in
    let rounded = simp to_z-of_z at c.rounded-rounded.ensures.value in
    let offset = simp to_z-of_z at c.offset.ensures in
    simp to_z-of_z (rw (gain, offset) (rw rounded (rw (weight, gap, b, r) (rw (surge, sway) refl))))
