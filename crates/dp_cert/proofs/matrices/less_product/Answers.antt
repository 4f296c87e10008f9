use Rattle.std.proofs.Common.{◌-ℤ◌, ◌*ℤ◌, arith, FitsSigned}
use Rattle.std.proofs.lemmas.Int.{ints, to_z-of_z}
use mir.Syntax.{w128}
use Rattle.dp_cert.proofs.Fills.{less_product_within}
use Rattle.dp_cert.proofs.matrices.less_product.Goals as goal

pub overflow_mul-result : goal.overflow_mul-result
overflow_mul-result c =
    let k = c.args.k in let p = c.args.p in let a = c.args.a in let b = c.args.b in
    let fk = c.ranges.k in let fp = c.ranges.p in let fa = c.ranges.a in let fb = c.ranges.b in
    let gk : FitsSigned w128 k = omega (arith, ints) in
    let w = less_product_within k p a b c.requires.k_small c.requires.p_small c.requires.a_small c.requires.b_small in
    let g1 : FitsSigned w128 (k *ℤ k) = omega (arith, ints, w.0.low, w.0.high) in
    let g2 : FitsSigned w128 (k *ℤ k *ℤ p) = omega (arith, ints, w.1.low, w.1.high) in
    let g3 : FitsSigned w128 (a *ℤ b) = omega (arith, ints, w.2.low, w.2.high) in
    let g4 : FitsSigned w128 (k *ℤ k *ℤ p -ℤ a *ℤ b) = omega (arith, ints, w.3.low, w.3.high) in
    simp to_z-of_z g2

pub overflow_mul-result-2 : goal.overflow_mul-result-2
overflow_mul-result-2 c =
    let k = c.args.k in let p = c.args.p in let a = c.args.a in let b = c.args.b in
    let fk = c.ranges.k in let fp = c.ranges.p in let fa = c.ranges.a in let fb = c.ranges.b in
    let gk : FitsSigned w128 k = omega (arith, ints) in
    let w = less_product_within k p a b c.requires.k_small c.requires.p_small c.requires.a_small c.requires.b_small in
    let g1 : FitsSigned w128 (k *ℤ k) = omega (arith, ints, w.0.low, w.0.high) in
    let g2 : FitsSigned w128 (k *ℤ k *ℤ p) = omega (arith, ints, w.1.low, w.1.high) in
    let g3 : FitsSigned w128 (a *ℤ b) = omega (arith, ints, w.2.low, w.2.high) in
    let g4 : FitsSigned w128 (k *ℤ k *ℤ p -ℤ a *ℤ b) = omega (arith, ints, w.3.low, w.3.high) in
    simp to_z-of_z g3

pub overflow_sub-result : goal.overflow_sub-result
overflow_sub-result c =
    let k = c.args.k in let p = c.args.p in let a = c.args.a in let b = c.args.b in
    let fk = c.ranges.k in let fp = c.ranges.p in let fa = c.ranges.a in let fb = c.ranges.b in
    let gk : FitsSigned w128 k = omega (arith, ints) in
    let w = less_product_within k p a b c.requires.k_small c.requires.p_small c.requires.a_small c.requires.b_small in
    let g1 : FitsSigned w128 (k *ℤ k) = omega (arith, ints, w.0.low, w.0.high) in
    let g2 : FitsSigned w128 (k *ℤ k *ℤ p) = omega (arith, ints, w.1.low, w.1.high) in
    let g3 : FitsSigned w128 (a *ℤ b) = omega (arith, ints, w.2.low, w.2.high) in
    let g4 : FitsSigned w128 (k *ℤ k *ℤ p -ℤ a *ℤ b) = omega (arith, ints, w.3.low, w.3.high) in
    simp to_z-of_z g4

pub returns-clause-value : goal.returns-clause-value
returns-clause-value c =
    let k = c.args.k in let p = c.args.p in let a = c.args.a in let b = c.args.b in
    let fk = c.ranges.k in let fp = c.ranges.p in let fa = c.ranges.a in let fb = c.ranges.b in
    let gk : FitsSigned w128 k = omega (arith, ints) in
    let w = less_product_within k p a b c.requires.k_small c.requires.p_small c.requires.a_small c.requires.b_small in
    let g1 : FitsSigned w128 (k *ℤ k) = omega (arith, ints, w.0.low, w.0.high) in
    let g2 : FitsSigned w128 (k *ℤ k *ℤ p) = omega (arith, ints, w.1.low, w.1.high) in
    let g3 : FitsSigned w128 (a *ℤ b) = omega (arith, ints, w.2.low, w.2.high) in
    let g4 : FitsSigned w128 (k *ℤ k *ℤ p -ℤ a *ℤ b) = omega (arith, ints, w.3.low, w.3.high) in
    simp to_z-of_z

pub returns-clause-small : goal.returns-clause-small
returns-clause-small c =
    let k = c.args.k in let p = c.args.p in let a = c.args.a in let b = c.args.b in
    let fk = c.ranges.k in let fp = c.ranges.p in let fa = c.ranges.a in let fb = c.ranges.b in
    let gk : FitsSigned w128 k = omega (arith, ints) in
    let w = less_product_within k p a b c.requires.k_small c.requires.p_small c.requires.a_small c.requires.b_small in
    let g1 : FitsSigned w128 (k *ℤ k) = omega (arith, ints, w.0.low, w.0.high) in
    let g2 : FitsSigned w128 (k *ℤ k *ℤ p) = omega (arith, ints, w.1.low, w.1.high) in
    let g3 : FitsSigned w128 (a *ℤ b) = omega (arith, ints, w.2.low, w.2.high) in
    let g4 : FitsSigned w128 (k *ℤ k *ℤ p -ℤ a *ℤ b) = omega (arith, ints, w.3.low, w.3.high) in
    simp to_z-of_z w.3
