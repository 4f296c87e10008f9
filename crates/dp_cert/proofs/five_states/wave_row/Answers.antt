use Rattle.std.proofs.Common.{refl, FitsSigned}
use Rattle.std.proofs.lemmas.Int.{to_z-of_z}
use mir.Syntax.{w128}
use Rattle.dp_cert.proofs.five_states.wave_row.Goals as goal

pub returns-clause-value : goal.returns-clause-value
returns-clause-value c =
    let fp = c.ranges.by_p in let fq = c.ranges.by_q in let fc = c.ranges.correction in
    let f1 : FitsSigned w128 c.minus.result = record { sfits = c.minus.type_inv } in
    let f2 : FitsSigned w128 c.wide.result = record { sfits = c.wide.type_inv } in
    let f3 : FitsSigned w128 c.less.result = record { sfits = c.less.type_inv } in
    let v = simp to_z-of_z at c.five.ensures.value in
    let e1 = simp to_z-of_z at c.minus.ensures.value in
    let e2 = simp to_z-of_z at c.wide.ensures.value in
    let e3 = simp to_z-of_z at c.less.ensures.value in
    rw v (rw (e1, e2, e3) refl)
