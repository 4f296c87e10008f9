use Rattle.std.proofs.Common.{◌≡◌, true, false, refl, sym, ap, subst, ◌^◌, ◌∙◌, Some, pos, ℤ, ◌*ℤ◌, FitsSigned}
use Rattle.std.proofs.lemmas.Int.{to_z-of_z}
use mir.Syntax.{w128}
use Rattle.dp_fixed.specs.Scale.{full_scale}
use Rattle.dp_fixed.specs.Division.{ceil_of}
use Rattle.dp_form.proofs.Order.{mul_nonneg}
use Rattle.dp_cert.specs.InRange.{IsUpTo}
use Rattle.dp_cert.specs.Width.{width, is_wide}
use Rattle.dp_cert.proofs.Widths.{wide_is, width_within, from_lt_false}
use Rattle.dp_cert.proofs.width.width.Goals as goal

pub returns-then-exceeds-clause-value : goal.returns-then-exceeds-clause-value
returns-then-exceeds-clause-value c =
    let fn = c.ranges.n in
    let fh = c.ranges.h in
    let test = simp to_z-of_z at c.exceeds.ensures in
    let wide : is_wide (width c.args.n c.args.h) ≡ true = wide_is c.args.h c.args.n ∙ sym test ∙ c.if-exceeds.true in
    rw wide refl

pub returns-else-exceeds-clause-value : goal.returns-else-exceeds-clause-value
unfolding width
returns-else-exceeds-clause-value c =
    let fn = c.ranges.n in
    let fh = c.ranges.h in
    let fp : FitsSigned w128 c.product.result = record { sfits = c.product.type_inv } in
    let fw : FitsSigned w128 c.ceil_div.result = record { sfits = c.ceil_div.type_inv } in
    let test = simp to_z-of_z at c.exceeds.ensures in
    let narrow : is_wide (width c.args.n c.args.h) ≡ false = wide_is c.args.h c.args.n ∙ sym test ∙ c.if-exceeds.false in
    let value = simp to_z-of_z at c.ceil_div.ensures.value in
    let product = simp to_z-of_z at c.product.ensures in
    rw narrow (simp to_z-of_z (ap Some (value ∙ ap (λ (z : ℤ). ceil_of z full_scale) product)))

pub returns-else-exceeds-clause-bound : goal.returns-else-exceeds-clause-bound
unfolding width
returns-else-exceeds-clause-bound c =
    let n = c.args.n in
    let h = c.args.h in
    let fn = c.ranges.n in
    let fh = c.ranges.h in
    let fp : FitsSigned w128 c.product.result = record { sfits = c.product.type_inv } in
    let fw : FitsSigned w128 c.ceil_div.result = record { sfits = c.ceil_div.type_inv } in
    let test = simp to_z-of_z at c.exceeds.ensures in
    let high = from_lt_false (pos (2 ^ 86)) (h *ℤ n) (sym test ∙ c.if-exceeds.false) in
    let low = mul_nonneg h n c.requires.h c.requires.n in
    let value = simp to_z-of_z at c.ceil_div.ensures.value in
    let product = simp to_z-of_z at c.product.ensures in
    simp to_z-of_z (subst (IsUpTo (pos (2 ^ 56))) (sym (value ∙ ap (λ (z : ℤ). ceil_of z full_scale) product)) (width_within h n low high))
