use Rattle.std.proofs.Common.{ap₂, ◌∙◌, arith, ℤ, FitsSigned}
use Rattle.std.proofs.lemmas.Int.{ints, to_z-of_z}
use mir.Syntax.{w64, w128}
use Rattle.dp_cert.specs.Width.{reach}
use Rattle.dp_cert.proofs.width.reach_of.Goals as goal

pub returns-clause-value : goal.returns-clause-value
returns-clause-value g c =
    let cert = c.args.c.now in
    let sized = c.requires.numbers in
    let r1 : FitsSigned w64 cert.rho = omega (arith, ints, sized.rho.low, sized.rho.high) in
    let r2 : FitsSigned w128 cert.rho = omega (arith, ints, sized.rho.low, sized.rho.high) in
    let b1 : FitsSigned w64 cert.b = omega (arith, ints, sized.b.low, sized.b.high) in
    let b2 : FitsSigned w128 cert.b = omega (arith, ints, sized.b.low, sized.b.high) in
    let q1 : FitsSigned w64 cert.r = omega (arith, ints, sized.r.low, sized.r.high) in
    let q2 : FitsSigned w128 cert.r = omega (arith, ints, sized.r.low, sized.r.high) in
    let f1 : FitsSigned w128 c.diagonal-place.result = record { sfits = c.diagonal-place.type_inv } in
    let f2 : FitsSigned w128 c.diagonal-speed.result = record { sfits = c.diagonal-speed.type_inv } in
    let fn : FitsSigned w128 c.reach.result = record { sfits = c.reach.type_inv } in
    let value = simp to_z-of_z at c.reach.ensures.value in
    simp to_z-of_z (value ∙ ap₂ (λ (a b : ℤ). reach a b cert.rho cert.b cert.r) c.diagonal-place.ensures.value c.diagonal-speed.ensures.value)
