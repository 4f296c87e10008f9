use Rattle.std.proofs.Common.{arith, pos, ◌*ℤ◌, FitsSigned}
use Rattle.std.proofs.lemmas.Int.{ints, to_z-of_z}
use mir.Syntax.{w128}
use Rattle.dp_fixed.proofs.LeastRoots.{root_is, root_small}
use Rattle.dp_cert.proofs.width.root_of_twice.Goals as goal

pub returns-clause-value : goal.returns-clause-value
returns-clause-value c =
    let fe = c.ranges.entry in
    let ft : FitsSigned w128 (pos 2 *ℤ c.args.entry) = omega (arith, ints) in
    let fr : FitsSigned w128 c.root_up.result = record { sfits = c.root_up.type_inv } in
    let root = simp to_z-of_z at c.root_up.ensures in
    simp to_z-of_z (root_is (pos 2 *ℤ c.args.entry) c.root_up.result root)

pub returns-clause-bound : goal.returns-clause-bound
returns-clause-bound c =
    let fe = c.ranges.entry in
    let ft : FitsSigned w128 (pos 2 *ℤ c.args.entry) = omega (arith, ints) in
    let fr : FitsSigned w128 c.root_up.result = record { sfits = c.root_up.type_inv } in
    let root = simp to_z-of_z at c.root_up.ensures in
    simp to_z-of_z (record { low = root.from_zero; high = root_small (pos 2 *ℤ c.args.entry) c.root_up.result root (omega (arith, ints)) })
