use Rattle.std.proofs.Common.{sym, ◌∙◌, arith, pos, FitsSigned}
use Rattle.std.proofs.lemmas.Int.{ints, to_z-of_z}
use mir.Syntax.{w128}
use Rattle.dp_cert.proofs.Widths.{exceeds_is, exceeds_not, lt_false}
use Rattle.dp_cert.proofs.width.exceeds.Goals as goal

pub returns-then-a-gt0 : goal.returns-then-a-gt0
returns-then-a-gt0 c =
    let fa = c.ranges.a in
    let fb = c.ranges.b in
    let fl = c.ranges.limit in
    let ff : FitsSigned w128 c.floor_div.result = record { sfits = c.floor_div.type_inv } in
    let floor = simp to_z-of_z at c.floor_div.ensures.floor in
    simp to_z-of_z (exceeds_is c.args.limit c.args.a c.args.b c.floor_div.result (omega (arith, ints)) floor)

pub returns-else-a-gt0 : goal.returns-else-a-gt0
returns-else-a-gt0 c =
    let fa = c.ranges.a in
    simp to_z-of_z (lt_false (pos 0) c.args.a (omega (arith, ints)) ∙ sym (exceeds_not c.args.limit c.args.a c.args.b c.requires.limit c.requires.factor (omega (arith, ints))))
