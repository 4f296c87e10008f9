use Rattle.std.proofs.Common.{arith, FitsSigned}
use Rattle.std.proofs.lemmas.Int.{ints, to_z-of_z}
use mir.Syntax.{w128}
use Rattle.dp_cert.proofs.bound.weight.Goals as goal

pub returns-clause-bound : goal.returns-clause-bound
returns-clause-bound c =
    let fp : FitsSigned w128 c.part.result = record { sfits = c.part.type_inv } in
    let fq : FitsSigned w128 c.part-2.result = record { sfits = c.part-2.type_inv } in
    let fs : FitsSigned w128 c.sum.result = record { sfits = c.sum.type_inv } in
    let value = simp to_z-of_z at c.sum.ensures.value in
    let pb = c.part.ensures.bound in
    let qb = c.part-2.ensures.bound in
    simp to_z-of_z (record { low = omega (arith, ints); high = omega (arith, ints) })
