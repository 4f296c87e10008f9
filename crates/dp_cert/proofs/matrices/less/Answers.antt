use Rattle.std.proofs.Common.{◌-ℤ◌, ◌*ℤ◌, arith, FitsSigned}
use Rattle.std.proofs.lemmas.Int.{ints, to_z-of_z}
use mir.Syntax.{w128}
use Rattle.dp_cert.proofs.Fills.{less_within}
use Rattle.dp_cert.proofs.matrices.less.Goals as goal

pub overflow_mul-result-2 : goal.overflow_mul-result-2
overflow_mul-result-2 c =
    let rate = c.args.rate in let p = c.args.p in
    let fr = c.ranges.rate in let fp = c.ranges.p in
    let gr : FitsSigned w128 rate = omega (arith, ints) in
    let w = less_within rate p c.args.shrunk c.requires.rate_small c.requires.p_small c.requires.shrunk_small in
    let g1 : FitsSigned w128 (rate *ℤ rate) = omega (arith, ints, w.0.low, w.0.high) in
    let g2 : FitsSigned w128 (rate *ℤ rate *ℤ p) = omega (arith, ints, w.1.low, w.1.high) in
    simp to_z-of_z g2

pub overflow_sub-result : goal.overflow_sub-result
overflow_sub-result c =
    let rate = c.args.rate in let p = c.args.p in let s = c.args.shrunk in
    let fr = c.ranges.rate in let fp = c.ranges.p in let fs = c.ranges.shrunk in
    let gr : FitsSigned w128 rate = omega (arith, ints) in
    let w = less_within rate p s c.requires.rate_small c.requires.p_small c.requires.shrunk_small in
    let g1 : FitsSigned w128 (rate *ℤ rate) = omega (arith, ints, w.0.low, w.0.high) in
    let g2 : FitsSigned w128 (rate *ℤ rate *ℤ p) = omega (arith, ints, w.1.low, w.1.high) in
    let g3 : FitsSigned w128 (rate *ℤ rate *ℤ p -ℤ s) = omega (arith, ints, w.2.low, w.2.high) in
    simp to_z-of_z g3

pub returns-clause-value : goal.returns-clause-value
returns-clause-value c =
    let rate = c.args.rate in let p = c.args.p in let s = c.args.shrunk in
    let fr = c.ranges.rate in let fp = c.ranges.p in let fs = c.ranges.shrunk in
    let gr : FitsSigned w128 rate = omega (arith, ints) in
    let w = less_within rate p s c.requires.rate_small c.requires.p_small c.requires.shrunk_small in
    let g1 : FitsSigned w128 (rate *ℤ rate) = omega (arith, ints, w.0.low, w.0.high) in
    let g2 : FitsSigned w128 (rate *ℤ rate *ℤ p) = omega (arith, ints, w.1.low, w.1.high) in
    let g3 : FitsSigned w128 (rate *ℤ rate *ℤ p -ℤ s) = omega (arith, ints, w.2.low, w.2.high) in
    simp to_z-of_z

pub returns-clause-small : goal.returns-clause-small
returns-clause-small c =
    let rate = c.args.rate in let p = c.args.p in let s = c.args.shrunk in
    let fr = c.ranges.rate in let fp = c.ranges.p in let fs = c.ranges.shrunk in
    let gr : FitsSigned w128 rate = omega (arith, ints) in
    let w = less_within rate p s c.requires.rate_small c.requires.p_small c.requires.shrunk_small in
    let g1 : FitsSigned w128 (rate *ℤ rate) = omega (arith, ints, w.0.low, w.0.high) in
    let g2 : FitsSigned w128 (rate *ℤ rate *ℤ p) = omega (arith, ints, w.1.low, w.1.high) in
    let g3 : FitsSigned w128 (rate *ℤ rate *ℤ p -ℤ s) = omega (arith, ints, w.2.low, w.2.high) in
    simp to_z-of_z w.2
