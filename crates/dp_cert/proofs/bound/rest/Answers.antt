use Rattle.std.proofs.Common.{pos, ap, subst, sym, ◌∙◌, arith, ℤ, ◌+ℤ◌, ◌*ℤ◌, FitsSigned}
use Rattle.std.proofs.lemmas.Int.{ints, to_z-of_z}
use mir.Syntax.{w128}
use Rattle.dp_fixed.specs.Scale.{full_scale}
use Rattle.dp_fixed.specs.Division.{ceil_of}
use Rattle.dp_cert.specs.InRange.{IsUpTo}
use Rattle.dp_cert.proofs.Splits.{rest_within}
use Rattle.dp_cert.proofs.bound.rest.Goals as goal

pub returns-clause-value : goal.returns-clause-value
returns-clause-value c =
    let fk = c.ranges.kept in
    let fd = c.ranges.demand in
    let fg = c.ranges.gap in
    let fm : FitsSigned w128 (full_scale *ℤ c.args.gap) = omega (arith, ints) in
    let fn : FitsSigned w128 (full_scale *ℤ c.args.kept) = omega (arith, ints) in
    let fp : FitsSigned w128 c.product.result = record { sfits = c.product.type_inv } in
    let fs : FitsSigned w128 (full_scale *ℤ c.args.kept +ℤ c.product.result) = omega (arith, ints) in
    let fr : FitsSigned w128 c.ceil_div.result = record { sfits = c.ceil_div.type_inv } in
    let product = simp to_z-of_z at c.product.ensures.value in
    let value = simp to_z-of_z at c.ceil_div.ensures.value in
    simp to_z-of_z (value ∙ ap (λ (z : ℤ). ceil_of (full_scale *ℤ c.args.kept +ℤ z) (full_scale *ℤ c.args.gap)) product)

pub returns-clause-bound : goal.returns-clause-bound
returns-clause-bound c =
    subst (IsUpTo (pos 2)) (sym (returns-clause-value c))
    (rest_within c.args.kept c.args.demand c.args.gap c.requires.kept_low c.requires.kept_high c.requires.demand_low c.requires.demand_high)
