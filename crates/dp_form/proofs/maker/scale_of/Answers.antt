use Rattle.std.proofs.Common.{arith, ◌∙◌, ◌*ℤ◌, FitsSigned, to_z}
use Rattle.std.proofs.lemmas.Int.{ints, to_z-of_z}
use mir.Syntax.{w128}
use Rattle.dp_form.proofs.MadeLaws.{scale_ends, scale_found, scale_further, scale_half, scale_low, square_fits, square_low}
use Rattle.dp_form.proofs.maker.scale_of.Goals as goal

pub over-requires-clause-d_low : goal.over-requires-clause-d_low
over-requires-clause-d_low c =
    let inv = c.loop-k.invariant in
    let s = to_z w128 c.loop-k.scale-bits in
    let low = scale_low c.loop-k.k s inv.is in
    let f : FitsSigned w128 (s *ℤ s) = square_fits s low inv.high in
    simp to_z-of_z (square_low s low)

pub returns-then-over-ge256-clause-value : goal.returns-then-over-ge256-clause-value
returns-then-over-ge256-clause-value c =
    let inv = c.loop-k.invariant in
    let q = c.args.q in
    let fq = c.ranges.q in
    let s = to_z w128 c.loop-k.scale-bits in
    let low = scale_low c.loop-k.k s inv.is in
    let f : FitsSigned w128 (s *ℤ s) = square_fits s low inv.high in
    let v = simp to_z-of_z at c.over.ensures.value in
    let rest = simp to_z-of_z at inv.rest in
    scale_found q s c.over.result c.loop-k.k c.loop-k-test.true inv.is v (omega (arith, ints, c.if-over-ge256.true)) rest

pub loop-k-preserved : goal.loop-k-preserved
loop-k-preserved c =
    let inv = c.loop-k.invariant in
    let q = c.args.q in
    let fq = c.ranges.q in
    let s = to_z w128 c.loop-k.scale-bits in
    let low = scale_low c.loop-k.k s inv.is in
    let f : FitsSigned w128 (s *ℤ s) = square_fits s low inv.high in
    let fo : FitsSigned w128 c.over-scale.result = record { sfits = c.over-scale.type_inv } in
    let v = simp to_z-of_z at c.over.ensures.value in
    let rest = simp to_z-of_z at inv.rest in
    let half = c.over-scale.ensures.value in
    let high = c.over-scale.ensures.high in
    let next = c.over-scale.ensures.low in
    let few = inv.few in
    let before = inv.high in
    record {
      is = simp to_z-of_z (half ∙ scale_half c.loop-k.k s c.loop-k-test.true inv.is);
      few = omega arith;
      high = simp to_z-of_z (omega (arith, ints, high, next, before));
      rest = simp to_z-of_z (scale_further q s c.over.result c.loop-k.k c.loop-k-test.true inv.is v (omega (arith, ints, c.if-over-ge256.false)) rest);
    }

pub returns-clause-value : goal.returns-clause-value
returns-clause-value c =
    let inv = c.loop-k.invariant in
    let q = c.args.q in
    let fq = c.ranges.q in
    let s = to_z w128 c.loop-k.scale-bits in
    let rest = simp to_z-of_z at inv.rest in
    scale_ends q s c.loop-k.k (omega (arith, c.loop-k-test.false)) inv.is rest
