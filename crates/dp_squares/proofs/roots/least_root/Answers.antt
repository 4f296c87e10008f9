use Rattle.std.proofs.Common.{◌^◌, pos, ◌≤ℤ◌, arith, FitsSigned}
use Rattle.std.proofs.lemmas.Int.{ints, to_z-of_z}
use mir.Syntax.{w64, w128}
use Rattle.dp_fixed.proofs.LeastRoots.{root_is}
use Rattle.dp_squares.proofs.roots.least_root.Goals as goal

pub overflow_cast-result : goal.overflow_cast-result
overflow_cast-result c =
    let fn = c.ranges.n in
    let fr : FitsSigned w128 c.root_up.result = record { sfits = c.root_up.type_inv } in
    let root = simp to_z-of_z at c.root_up.ensures in
    let high : c.root_up.result ≤ℤ pos (2 ^ 50) = root.least (pos (2 ^ 50)) (omega (arith, ints)) (omega (arith, ints, c.requires.high)) in
    let f : FitsSigned w64 c.root_up.result = omega (arith, ints, root.from_zero, high) in
    simp to_z-of_z f

pub returns : goal.returns
returns c =
    let fn = c.ranges.n in
    let fr : FitsSigned w128 c.root_up.result = record { sfits = c.root_up.type_inv } in
    let root = simp to_z-of_z at c.root_up.ensures in
    let high : c.root_up.result ≤ℤ pos (2 ^ 50) = root.least (pos (2 ^ 50)) (omega (arith, ints)) (omega (arith, ints, c.requires.high)) in
    let f : FitsSigned w64 c.root_up.result = omega (arith, ints, root.from_zero, high) in
    simp to_z-of_z (root_is c.args.n c.root_up.result root)
