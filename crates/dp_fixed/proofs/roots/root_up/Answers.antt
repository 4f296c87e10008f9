use Rattle.std.proofs.Common.{arith, ◌*ℤ◌, ◌≤ℤ◌, FitsSigned}
use Rattle.std.proofs.lemmas.Int.{ints, to_z-of_z}
use Rattle.std.specs.Int.{IsIsqrt}
use mir.Syntax.{w128}
use Rattle.dp_fixed.proofs.RootsUp.{root_here, square_fits}
use Rattle.dp_fixed.proofs.roots.root_up.Goals as goal

pub returns-else-square-n : goal.returns-else-square-n
returns-else-square-n c =
    let f = c.ranges.n in
    let r = c.isqrt-root.result in
    let g : FitsSigned w128 r = record { sfits = c.isqrt-root.type_inv } in
    let i : IsIsqrt c.args.n r = simp to_z-of_z at c.isqrt-root.ensures in
    let k : FitsSigned w128 (r *ℤ r) = square_fits c.args.n r c.requires.low f i in
    let t = simp to_z-of_z at c.if-square-n.false in
    let h : c.args.n ≤ℤ (r *ℤ r) = omega (arith, ints, t) in
    simp to_z-of_z (root_here c.args.n r c.requires.low i h)
