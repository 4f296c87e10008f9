use Rattle.std.proofs.Common.{arith, ◌∙◌, sym, FitsSigned}
use Rattle.std.proofs.lemmas.Int.{ints, to_z-of_z}
use mir.Syntax.{w128}
use Rattle.dp_guide.specs.Course.{stopping_way}
use Rattle.dp_guide.proofs.Ways.{stopping_closed_at, few_parts}
use Rattle.dp_guide.proofs.stopping.way.Goals as goal

pub twice-requires-clause-parts_low : goal.twice-requires-clause-parts_low
twice-requires-clause-parts_low c =
    let fp : FitsSigned w128 c.ceil_div-parts.result = record { sfits = c.ceil_div-parts.type_inv } in
    let fv = c.ranges.v in
    let fa = c.ranges.accel in
    let i = simp to_z-of_z at c.ceil_div-parts.ensures.ceil in
    let few = few_parts c.args.v c.args.accel c.ceil_div-parts.result c.requires.accel_low c.requires.low i.below i.above in
    simp to_z-of_z few.0

pub twice-requires-clause-parts_high : goal.twice-requires-clause-parts_high
twice-requires-clause-parts_high c =
    let fp : FitsSigned w128 c.ceil_div-parts.result = record { sfits = c.ceil_div-parts.type_inv } in
    let fv = c.ranges.v in
    let fa = c.ranges.accel in
    let i = simp to_z-of_z at c.ceil_div-parts.ensures.ceil in
    let few = few_parts c.args.v c.args.accel c.ceil_div-parts.result c.requires.accel_low c.requires.low i.below i.above in
    let e = to_z-of_z w128 c.ceil_div-parts.result fp in
    omega (arith, ints, few.1, e)

pub returns-clause-value : goal.returns-clause-value
returns-clause-value c =
    let fp : FitsSigned w128 c.ceil_div-parts.result = record { sfits = c.ceil_div-parts.type_inv } in
    let ft : FitsSigned w128 c.twice.result = record { sfits = c.twice.type_inv } in
    let fh : FitsSigned w128 c.half.result = record { sfits = c.half.type_inv } in
    let fv = c.ranges.v in
    let fa = c.ranges.accel in
    let i = simp to_z-of_z at c.ceil_div-parts.ensures.ceil in
    let closed = stopping_closed_at c.args.v c.args.accel c.ceil_div-parts.result c.requires.accel_low c.requires.low i.above i.below in
    let value = simp to_z-of_z at c.twice.ensures.value in
    let h = simp to_z-of_z at c.half.ensures in
    simp to_z-of_z (h (stopping_way c.args.v c.args.accel) (closed ∙ sym value))

pub returns-clause-small : goal.returns-clause-small
returns-clause-small c =
    let fp : FitsSigned w128 c.ceil_div-parts.result = record { sfits = c.ceil_div-parts.type_inv } in
    let ft : FitsSigned w128 c.twice.result = record { sfits = c.twice.type_inv } in
    let fh : FitsSigned w128 c.half.result = record { sfits = c.half.type_inv } in
    let fv = c.ranges.v in
    let fa = c.ranges.accel in
    let i = simp to_z-of_z at c.ceil_div-parts.ensures.ceil in
    let closed = stopping_closed_at c.args.v c.args.accel c.ceil_div-parts.result c.requires.accel_low c.requires.low i.above i.below in
    let value = simp to_z-of_z at c.twice.ensures.value in
    let h = simp to_z-of_z at c.half.ensures in
    let e = h (stopping_way c.args.v c.args.accel) (closed ∙ sym value) in
    let s = c.twice.ensures.small in
    simp to_z-of_z (omega (arith, ints, e, s, closed ∙ sym value))
