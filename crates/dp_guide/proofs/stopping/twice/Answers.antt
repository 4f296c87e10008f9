use Rattle.std.proofs.Common.{arith, unsigned_abs, ◌≤◌, ◌^◌, ◌+◌, FitsSigned}
use Rattle.std.proofs.lemmas.Int.{ints, to_z-of_z}
use mir.Syntax.{w128}
use Rattle.dp_guide.proofs.stopping.twice.Goals as goal

pub difference-requires-2-clause-b : goal.difference-requires-2-clause-b
difference-requires-2-clause-b c =
    let f3 : FitsSigned w128 c.times-3.result = record { sfits = c.times-3.type_inv } in
    let f4 : FitsSigned w128 c.times-4.result = record { sfits = c.times-4.type_inv } in
    let fd : FitsSigned w128 c.difference.result = record { sfits = c.difference.type_inv } in
    let fp = c.ranges.parts in
    let a = simp to_z-of_z at c.times-4.ensures.small in
    let b = simp to_z-of_z at c.times-3.ensures.small in
    let d = simp to_z-of_z at c.difference.ensures.bound in
    simp to_z-of_z (omega (arith, ints, a, b, d))

pub returns-clause-small : goal.returns-clause-small
returns-clause-small c =
    let f1 : FitsSigned w128 c.times.result = record { sfits = c.times.type_inv } in
    let f2 : FitsSigned w128 c.times-2.result = record { sfits = c.times-2.type_inv } in
    let f3 : FitsSigned w128 c.times-3.result = record { sfits = c.times-3.type_inv } in
    let f4 : FitsSigned w128 c.times-4.result = record { sfits = c.times-4.type_inv } in
    let fd : FitsSigned w128 c.difference.result = record { sfits = c.difference.type_inv } in
    let fe : FitsSigned w128 c.difference-2.result = record { sfits = c.difference-2.type_inv } in
    let fp = c.ranges.parts in
    let fv = c.ranges.v in
    let a = simp to_z-of_z at c.times-4.ensures.small in
    let b = simp to_z-of_z at c.times-3.ensures.small in
    let d = simp to_z-of_z at c.difference.ensures.bound in
    let g = simp to_z-of_z at c.times-2.ensures.small in
    let h = simp to_z-of_z at c.times.ensures.small in
    let i = simp to_z-of_z at c.difference-2.ensures.bound in
    let vl = c.requires.low in
    let vh = c.requires.high in
    let pl = c.requires.parts_low in
    let ph = c.requires.parts_high in
    let sv : unsigned_abs c.args.v ≤ 2 ^ 31 = omega (arith, ints, vl, vh) in
    let sp : unsigned_abs c.args.parts ≤ 2 ^ 31 = omega (arith, ints, pl, ph) in
    let s1 : unsigned_abs c.times.result ≤ 2 ^ 62 = omega (arith, h, sv) in
    let s2 : unsigned_abs c.times-2.result ≤ 2 ^ 93 = omega (arith, g, s1) in
    let s3 : unsigned_abs c.difference.result ≤ 2 ^ 31 + 1 = omega (arith, d, sp) in
    let s4 : unsigned_abs c.times-4.result ≤ 2 ^ 94 = omega (arith, a, b, s3) in
    simp to_z-of_z (omega (arith, i, s2, s4))
