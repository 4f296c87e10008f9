use Rattle.std.proofs.Common.{arith, FitsSigned}
use Rattle.std.proofs.lemmas.Int.{ints, to_z-of_z}
use mir.Syntax.{w128}
use Rattle.dp_cert.proofs.loops.less_both.Goals as goal

pub returns-clause-small : goal.returns-clause-small
returns-clause-small c =
    let fa = c.ranges.a in let fb = c.ranges.b in let fc = c.ranges.c in
    let f1 : FitsSigned w128 c.less.result = record { sfits = c.less.type_inv } in
    let f2 : FitsSigned w128 c.wide.result = record { sfits = c.wide.type_inv } in
    let f3 : FitsSigned w128 c.difference.result = record { sfits = c.difference.type_inv } in
    let v = simp to_z-of_z at c.difference.ensures.value in
    let l = simp to_z-of_z at c.less.ensures.value in
    let w = simp to_z-of_z at c.wide.ensures.value in
    let ra = c.requires.a in let rb = c.requires.b in let rc = c.requires.c in
    simp to_z-of_z (record { low = omega (arith, ints, v, l, w, ra, rb, rc); high = omega (arith, ints, v, l, w, ra, rb, rc) })
