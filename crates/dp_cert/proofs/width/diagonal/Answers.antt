use Rattle.std.proofs.Common.{arith, FitsSigned}
use Rattle.std.proofs.lemmas.Int.{ints, to_z-of_z}
use mir.Syntax.{w128}
use Rattle.dp_cert.proofs.Diagonal.{diagonal_nonneg}
use Rattle.dp_cert.proofs.width.diagonal.Goals as goal

pub returns-clause-bound : goal.returns-clause-bound
returns-clause-bound g c =
    let f : FitsSigned w128 c.entry_of.result = record { sfits = c.entry_of.type_inv } in
    let low = diagonal_nonneg c.args.p.now c.args.i c.requires.form in
    simp to_z-of_z (record { low = omega (arith, ints, c.entry_of.ensures.value); high = omega (arith, ints) })
