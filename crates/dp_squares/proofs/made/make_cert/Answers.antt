use Rattle.std.proofs.Common.{refl, arith, FitsSigned}
use Rattle.std.proofs.lemmas.Int.{ints, to_z-of_z}
use mir.Syntax.{w64, w128}
use Rattle.dp_squares.specs.Made.{made_cert}
use Rattle.dp_squares.proofs.made.make_cert.Goals as goal

pub returns : goal.returns
unfolding made_cert
returns c =
    let cert = c.args.c.now in
    let n = c.requires.numbers in
    let u = c.under_roots-under.ensures in
    let f1 : FitsSigned w64 cert.rho = omega (arith, ints, n.rho.low, n.rho.high) in
    let f2 : FitsSigned w64 cert.b = omega (arith, ints, n.b.low, n.b.high) in
    let f3 : FitsSigned w64 cert.r = omega (arith, ints, n.r.low, n.r.high) in
    let f4 : FitsSigned w64 c.made_root.result = record { sfits = c.made_root.type_inv } in
    let f5 : FitsSigned w64 c.made_root-2.result = record { sfits = c.made_root-2.type_inv } in
    let f6 : FitsSigned w128 c.under_roots-under.result.input = omega (arith, ints, u.input_small.low, u.input_small.high) in
    let f7 : FitsSigned w128 c.under_roots-under.result.rounding = omega (arith, ints, u.rounding_small.low, u.rounding_small.high) in
    let b = simp to_z-of_z at c.made_root.ensures in
    let r = simp to_z-of_z at c.made_root-2.ensures in
    simp to_z-of_z (rw (b, r, c.made_parts.ensures) (rw (u.input, u.rounding) refl))
