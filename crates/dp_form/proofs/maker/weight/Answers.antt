use Rattle.std.proofs.Common.{pos, ◌^◌, ap, ap₂, ◌∙◌, arith, ℤ, ◌*ℤ◌, FitsSigned}
use Rattle.std.specs.Int.{int_div_euclid}
use Rattle.std.proofs.lemmas.Int.{ints, to_z-of_z}
use mir.Syntax.{w128}
use Rattle.dp_form.specs.Made.{shift}
use Rattle.dp_form.proofs.Order.{mul_le}
use Rattle.dp_form.proofs.MadeLaws.{four_is, room_is}
use Rattle.dp_form.proofs.maker.weight.Goals as goal

pub returns-clause-value : goal.returns-clause-value
returns-clause-value c =
    let q = c.args.q in let s = c.args.scale in
    let fq = c.ranges.q in let fs = c.ranges.scale in
    let h = mul_le s s (pos (2 ^ 40)) (omega (arith, ints)) c.requires.scale_high in
    let l = mul_le s (pos 1) s (omega (arith, ints)) c.requires.scale_low in
    let p : FitsSigned w128 (s *ℤ s) = omega (arith, ints, h, l) in
    let fo : FitsSigned w128 c.over.result = record { sfits = c.over.type_inv } in
    let v = simp to_z-of_z at c.over.ensures.value in
    simp to_z-of_z (v ∙ ap (λ (z : ℤ). int_div_euclid q z) (ap₂ (λ (a b : ℤ). a *ℤ b) c.requires.scale_is c.requires.scale_is ∙ four_is (shift 40 q)))

pub returns-clause-room : goal.returns-clause-room
returns-clause-room c =
    let q = c.args.q in let s = c.args.scale in
    let fq = c.ranges.q in let fs = c.ranges.scale in
    let h = mul_le s s (pos (2 ^ 40)) (omega (arith, ints)) c.requires.scale_high in
    let l = mul_le s (pos 1) s (omega (arith, ints)) c.requires.scale_low in
    let p : FitsSigned w128 (s *ℤ s) = omega (arith, ints, h, l) in
    let fo : FitsSigned w128 c.over.result = record { sfits = c.over.type_inv } in
    let high = simp to_z-of_z at c.over.ensures.high in
    let room = room_is c.over.result s q c.over.ensures.low c.requires.scale_low high in
    simp to_z-of_z (omega (arith, ints, room, c.requires.high))
