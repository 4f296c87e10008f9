use Rattle.std.proofs.Common.{refl, sym, ◌∙◌, arith, FitsSigned}
use Rattle.std.proofs.lemmas.Int.{ints, to_z-of_z}
use mir.Syntax.{w64, w128}
use Rattle.dp_cert.specs.Valid.{input_condition}
use Rattle.dp_cert.proofs.RangeFacts.{le_from}
use Rattle.dp_cert.proofs.judge.input_condition.Goals as goal

pub returns-then-is_enough-clause-value : goal.returns-then-is_enough-clause-value
unfolding input_condition
returns-then-is_enough-clause-value g c =
    let up = c.requires.numbers.b in
    let f : FitsSigned w64 c.args.c.now.b = omega (arith, ints, up.low, up.high) in
    let k : FitsSigned w128 c.input_square.result = record { sfits = c.input_square.type_inv } in
    let e = rw c.input_square.ensures.value at (simp to_z-of_z at c.is_enough.ensures) in
    let test = sym e ∙ c.if-is_enough.true in
    rw test refl

pub returns-then-is_enough-clause-enough : goal.returns-then-is_enough-clause-enough
returns-then-is_enough-clause-enough g c =
    let up = c.requires.numbers.b in
    let f : FitsSigned w64 c.args.c.now.b = omega (arith, ints, up.low, up.high) in
    let k : FitsSigned w128 c.input_square.result = record { sfits = c.input_square.type_inv } in
    let e = rw c.input_square.ensures.value at (simp to_z-of_z at c.is_enough.ensures) in
    λ none. le_from _ _ (sym e ∙ c.if-is_enough.true)

pub returns-else-is_enough-clause-value : goal.returns-else-is_enough-clause-value
unfolding input_condition
returns-else-is_enough-clause-value g c =
    let up = c.requires.numbers.b in
    let f : FitsSigned w64 c.args.c.now.b = omega (arith, ints, up.low, up.high) in
    let k : FitsSigned w128 c.input_square.result = record { sfits = c.input_square.type_inv } in
    let e = rw c.input_square.ensures.value at (simp to_z-of_z at c.is_enough.ensures) in
    let test = sym e ∙ c.if-is_enough.false in
    rw test refl
