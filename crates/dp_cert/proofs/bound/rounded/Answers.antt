use Rattle.std.proofs.Common.{◌≡◌, arith, subst, ℤ, ◌+ℤ◌, FitsSigned}
use Rattle.std.proofs.lemmas.Int.{ints, to_z-of_z}
use mir.Syntax.{w128}
use Rattle.dp_cert.specs.Bound.{IsSplit}
use Rattle.dp_cert.proofs.Splits.{rounded_is}
use Rattle.dp_cert.proofs.bound.rounded.Goals as goal

pub returns-clause-value : goal.returns-clause-value
returns-clause-value c =
    let fw = c.ranges.weight in
    let fr = c.ranges.r in
    let fg = c.ranges.gap in
    let a = c.split-kept.result.0 in
    let x = c.split-kept.result.1 in
    let b = c.split-demand.result.0 in
    let y = c.split-demand.result.1 in
    let fp : FitsSigned w128 c.product.result = record { sfits = c.product.type_inv } in
    let k = simp to_z-of_z at c.split-kept.ensures.split in
    let m = simp to_z-of_z at c.split-kept.ensures.most in
    let d = simp to_z-of_z at c.split-demand.ensures.split in
    let n = simp to_z-of_z at c.split-demand.ensures.most in
    let fa : FitsSigned w128 a = omega (arith, ints) in
    let fx : FitsSigned w128 x = omega (arith, ints) in
    let fb : FitsSigned w128 b = omega (arith, ints) in
    let fy : FitsSigned w128 y = omega (arith, ints) in
    let fe : FitsSigned w128 c.rest.result = record { sfits = c.rest.type_inv } in
    let fl : FitsSigned w128 c.sum-least.result = record { sfits = c.sum-least.type_inv } in
    let fs : FitsSigned w128 c.sum.result = record { sfits = c.sum.type_inv } in
    let product = simp to_z-of_z at c.product.ensures.value in
    let rest = simp to_z-of_z at c.rest.ensures.value in
    let least = simp to_z-of_z at c.sum-least.ensures.value in
    let whole = simp to_z-of_z at c.sum.ensures.value in
    let kept = subst (λ (z : ℤ). IsSplit z c.args.gap a x) product k in
    let e = rounded_is c.args.weight c.args.r c.args.gap a x b y c.requires.least kept d in
    simp to_z-of_z (added c.sum.result c.sum-least.result a b c.rest.result _ _ whole least rest e)
  where
    added : (s l a b r z w : ℤ) → s ≡ a +ℤ l → l ≡ b +ℤ r → r ≡ z → (a +ℤ b) +ℤ z ≡ w → s ≡ w
    added s l a b r z w h k m n = omega (arith, ints)

pub sum-least-requires-clause-b : goal.sum-least-requires-clause-b
sum-least-requires-clause-b c =
    let fe : FitsSigned w128 c.rest.result = record { sfits = c.rest.type_inv } in
    let rb = c.rest.ensures.bound in
    simp to_z-of_z (omega (arith, ints))

pub sum-requires-clause-a : goal.sum-requires-clause-a
sum-requires-clause-a c =
    let fp : FitsSigned w128 c.product.result = record { sfits = c.product.type_inv } in
    let pb = c.product.ensures.bound in
    let k = c.split-kept.ensures.split in
    let m = simp to_z-of_z at c.split-kept.ensures.most in
    let fa : FitsSigned w128 c.split-kept.result.0 = omega (arith, ints, k.whole) in
    simp to_z-of_z (omega (arith, ints, k.whole))

pub returns-clause-bound : goal.returns-clause-bound
returns-clause-bound c =
    let fw = c.ranges.weight in
    let fp : FitsSigned w128 c.product.result = record { sfits = c.product.type_inv } in
    let pb = c.product.ensures.bound in
    let k = c.split-kept.ensures.split in
    let m = simp to_z-of_z at c.split-kept.ensures.most in
    let d = c.split-demand.ensures.split in
    let n = simp to_z-of_z at c.split-demand.ensures.most in
    let fa : FitsSigned w128 c.split-kept.result.0 = omega (arith, ints, k.whole) in
    let fb : FitsSigned w128 c.split-demand.result.0 = omega (arith, ints, d.whole) in
    let fe : FitsSigned w128 c.rest.result = record { sfits = c.rest.type_inv } in
    let rb = c.rest.ensures.bound in
    let fl : FitsSigned w128 c.sum-least.result = record { sfits = c.sum-least.type_inv } in
    let fs : FitsSigned w128 c.sum.result = record { sfits = c.sum.type_inv } in
    let lb = simp to_z-of_z at c.sum-least.ensures.bound in
    let sb = simp to_z-of_z at c.sum.ensures.bound in
    simp to_z-of_z (omega (arith, ints, k.whole, d.whole))
