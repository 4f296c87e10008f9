use Rattle.std.proofs.Common.{◌^◌, pos, refl, sym, ◌∙◌, arith, FitsSigned}
use Rattle.std.proofs.lemmas.Int.{ints, to_z-of_z}
use mir.Syntax.{w64, w128}
use Rattle.dp_cert.specs.InRange.{IsUpTo}
use Rattle.dp_cert.specs.Valid.{round_condition}
use Rattle.dp_cert.proofs.RangeFacts.{le_from}
use Rattle.dp_cert.proofs.judge.round_condition.Goals as goal

pub is_enough-requires : goal.is_enough-requires
is_enough-requires g c =
    let up = c.requires.numbers.r in
    let f : FitsSigned w64 c.args.c.now.r = omega (arith, ints, up.low, up.high) in
    let root : IsUpTo (pos (2 ^ 50)) c.args.c.now.r = record { low = up.low; high = omega (arith, ints, up.high) } in
    simp to_z-of_z root

pub returns-then-is_enough-clause-value : goal.returns-then-is_enough-clause-value
unfolding round_condition
returns-then-is_enough-clause-value g c =
    let up = c.requires.numbers.r in
    let f : FitsSigned w64 c.args.c.now.r = omega (arith, ints, up.low, up.high) in
    let k : FitsSigned w128 c.round_square.result = record { sfits = c.round_square.type_inv } in
    let e = rw c.round_square.ensures.value at (simp to_z-of_z at c.is_enough.ensures) in
    let test = sym e ∙ c.if-is_enough.true in
    rw test refl

pub returns-then-is_enough-clause-enough : goal.returns-then-is_enough-clause-enough
returns-then-is_enough-clause-enough g c =
    let up = c.requires.numbers.r in
    let f : FitsSigned w64 c.args.c.now.r = omega (arith, ints, up.low, up.high) in
    let k : FitsSigned w128 c.round_square.result = record { sfits = c.round_square.type_inv } in
    let e = rw c.round_square.ensures.value at (simp to_z-of_z at c.is_enough.ensures) in
    λ none. le_from _ _ (sym e ∙ c.if-is_enough.true)

pub returns-else-is_enough-clause-value : goal.returns-else-is_enough-clause-value
unfolding round_condition
returns-else-is_enough-clause-value g c =
    let up = c.requires.numbers.r in
    let f : FitsSigned w64 c.args.c.now.r = omega (arith, ints, up.low, up.high) in
    let k : FitsSigned w128 c.round_square.result = record { sfits = c.round_square.type_inv } in
    let e = rw c.round_square.ensures.value at (simp to_z-of_z at c.is_enough.ensures) in
    let test = sym e ∙ c.if-is_enough.false in
    rw test refl
