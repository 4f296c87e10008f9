use Rattle.std.proofs.Common.{arith, sym, subst, ◌≤ℤ◌, FitsSigned, ℤ}
use Rattle.std.proofs.lemmas.Int.{ints, clamps, to_z-of_z}
use mir.Syntax.{w128}
use Rattle.dp_guide.specs.Course.{stopping_way}
use Rattle.dp_guide.proofs.Courses.{fastest_found, least_stops}
use Rattle.dp_guide.proofs.velocity.fastest_ahead.Goals as goal

pub fastest-requires-clause-low : goal.fastest-requires-clause-low
fastest-requires-clause-low c =
    let fl : FitsSigned w128 c.lowest-lo.result = record { sfits = c.lowest-lo.type_inv } in
    let e = c.lowest-lo.ensures in
    let h = c.requires.rate_high in
    let s = to_z-of_z w128 c.lowest-lo.result fl in
    omega (arith, ints, clamps, e, h, s)

pub fastest-requires-clause-order : goal.fastest-requires-clause-order
fastest-requires-clause-order c =
    let fl : FitsSigned w128 c.lowest-lo.result = record { sfits = c.lowest-lo.type_inv } in
    let fh : FitsSigned w128 c.highest-hi.result = record { sfits = c.highest-hi.type_inv } in
    let fv = c.ranges.v in
    let fr = c.ranges.rate in
    let fa = c.ranges.accel in
    let e = simp to_z-of_z at c.lowest-lo.ensures in
    let g = simp to_z-of_z at c.highest-hi.ensures in
    let s = to_z-of_z w128 c.lowest-lo.result fl in
    let t = to_z-of_z w128 c.highest-hi.result fh in
    let r = c.requires.rate_low in
    let a = c.requires.accel_low in
    let lo = c.requires.on_course.low in
    let hi = c.requires.on_course.high in
    omega (arith, ints, clamps, e, g, s, t, r, a, lo, hi)

pub fastest-requires-clause-stops : goal.fastest-requires-clause-stops
fastest-requires-clause-stops c =
    let fl : FitsSigned w128 c.lowest-lo.result = record { sfits = c.lowest-lo.type_inv } in
    let fv = c.ranges.v in
    let fr = c.ranges.rate in
    let fa = c.ranges.accel in
    let fd = c.ranges.d in
    let e = simp to_z-of_z at c.lowest-lo.ensures in
    let s = least_stops c.args.rate c.args.accel c.args.v c.args.d c.requires.rate_low c.requires.accel_low c.requires.ahead c.requires.on_course in
    let u = subst (λ (z : ℤ). stopping_way z c.args.accel ≤ℤ c.args.d) (sym e) s in
    simp to_z-of_z u

pub returns-clause-fastest : goal.returns-clause-fastest
returns-clause-fastest c =
    let fl : FitsSigned w128 c.lowest-lo.result = record { sfits = c.lowest-lo.type_inv } in
    let fh : FitsSigned w128 c.highest-hi.result = record { sfits = c.highest-hi.type_inv } in
    let fw : FitsSigned w128 c.fastest.result = record { sfits = c.fastest.type_inv } in
    let fv = c.ranges.v in
    let fr = c.ranges.rate in
    let fa = c.ranges.accel in
    let fd = c.ranges.d in
    let e = simp to_z-of_z at c.lowest-lo.ensures in
    let g = simp to_z-of_z at c.highest-hi.ensures in
    let from = simp to_z-of_z at c.fastest.ensures.from in
    let to = simp to_z-of_z at c.fastest.ensures.to in
    let stops = simp to_z-of_z at c.fastest.ensures.stops in
    let over = simp to_z-of_z at c.fastest.ensures.next_is_over in
    let found = fastest_found c.args.rate c.args.accel c.args.v c.args.d c.fastest.result c.requires.accel_low (omega (arith, ints, e, from)) (omega (arith, ints, g, to)) stops (λ less. over (omega (arith, ints, g, less))) in
    simp to_z-of_z found

pub returns-clause-small : goal.returns-clause-small
returns-clause-small c =
    let fl : FitsSigned w128 c.lowest-lo.result = record { sfits = c.lowest-lo.type_inv } in
    let fh : FitsSigned w128 c.highest-hi.result = record { sfits = c.highest-hi.type_inv } in
    let fw : FitsSigned w128 c.fastest.result = record { sfits = c.fastest.type_inv } in
    let fv = c.ranges.v in
    let fr = c.ranges.rate in
    let fa = c.ranges.accel in
    let fd = c.ranges.d in
    let e = simp to_z-of_z at c.lowest-lo.ensures in
    let g = simp to_z-of_z at c.highest-hi.ensures in
    let from = simp to_z-of_z at c.fastest.ensures.from in
    let to = simp to_z-of_z at c.fastest.ensures.to in
    let h = c.requires.rate_high in
    simp to_z-of_z (omega (arith, ints, clamps, e, g, from, to, h))
