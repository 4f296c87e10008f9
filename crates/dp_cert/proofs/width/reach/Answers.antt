use Rattle.std.proofs.Common.{◌^◌, ap, ap₂, ◌∙◌, pos, ℤ, ◌+ℤ◌, ◌-ℤ◌, ◌*ℤ◌, FitsSigned}
use Rattle.std.proofs.lemmas.Int.{to_z-of_z}
use Rattle.std.specs.Int.{int_max}
use mir.Syntax.{w128}
use Rattle.dp_fixed.specs.Scale.{full_scale}
use Rattle.dp_fixed.specs.Division.{ceil_of}
use Rattle.dp_cert.specs.Width.{reach}
use Rattle.dp_cert.proofs.width.reach.Goals as goal

pub returns-clause-value : goal.returns-clause-value
unfolding reach
returns-clause-value c =
    let f1 = c.ranges.place in let f2 = c.ranges.speed in let f3 = c.ranges.rho in let f4 = c.ranges.b in let f5 = c.ranges.r in
    let g1 : FitsSigned w128 c.root_of_twice.result = record { sfits = c.root_of_twice.type_inv } in
    let g2 : FitsSigned w128 c.root_of_twice-2.result = record { sfits = c.root_of_twice-2.type_inv } in
    let g3 : FitsSigned w128 c.jump-jump.result = record { sfits = c.jump-jump.type_inv } in
    let g4 : FitsSigned w128 c.rounding.result = record { sfits = c.rounding.type_inv } in
    let g5 : FitsSigned w128 c.added-added.result = record { sfits = c.added-added.type_inv } in
    let g6 : FitsSigned w128 c.kept.result = record { sfits = c.kept.type_inv } in
    let g7 : FitsSigned w128 c.max.result = record { sfits = c.max.type_inv } in
    let root = simp to_z-of_z at c.root_of_twice.ensures.value in
    let root2 = simp to_z-of_z at c.root_of_twice-2.ensures.value in
    let jump = simp to_z-of_z at c.jump-jump.ensures.value in
    let rounding = simp to_z-of_z at c.rounding.ensures.value in
    let added = simp to_z-of_z at c.added-added.ensures.value in
    let kept = simp to_z-of_z at c.kept.ensures.value in
    let max = simp to_z-of_z at c.max.ensures in
    simp to_z-of_z (max.value ∙ ap₂ int_max
    (jump ∙ ap (λ (z : ℤ). z *ℤ pos (2 ^ 43)) root)
    (kept ∙ ap (λ (z : ℤ). ceil_of z (full_scale -ℤ c.args.rho)) (added ∙ ap (λ (z : ℤ). c.args.b *ℤ pos (2 ^ 44) +ℤ full_scale *ℤ z) (rounding ∙ ap (λ (z : ℤ). z *ℤ pos (2 ^ 32) +ℤ pos 2 *ℤ c.args.r) root2))))
