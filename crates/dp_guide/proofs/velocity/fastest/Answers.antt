use Rattle.std.proofs.Common.{arith, unsigned_abs, subst, ap, ◌≡◌, ◌<◌, ◌-ℤ◌, ◌+ℤ◌, ◌<ℤ◌, ◌≤ℤ◌, FitsSigned, pos, ℤ, to_z}
use Rattle.std.proofs.lemmas.Int.{ints, to_z-of_z, by_lt_z}
use mir.Syntax.{w128}
use Rattle.dp_guide.specs.Course.{stopping_way}
use Rattle.dp_guide.proofs.velocity.fastest.Goals as goal

-- the least cannot stop where it is the greatest, and that cannot
apart : (lo hi a d : ℤ) → lo ≤ℤ hi → stopping_way lo a ≤ℤ d → d <ℤ stopping_way hi a → lo <ℤ hi
apart lo hi a d h s o = by_lt_z lo hi (λ l. l)
    (λ same. let e : lo ≡ hi = omega (arith, ints) in let f = ap (λ (z : ℤ). stopping_way z a) e in absurd (omega (arith, ints)))

nearer_low : (low over m : ℤ) → low <ℤ m → m <ℤ over → unsigned_abs (over -ℤ m) < unsigned_abs (over -ℤ low)
nearer_low low over m h k = omega (arith, ints)

nearer_over : (low over m : ℤ) → low <ℤ m → m <ℤ over → unsigned_abs (m -ℤ low) < unsigned_abs (over -ℤ low)
nearer_over low over m h k = omega (arith, ints)

pub loop-low-init : goal.loop-low-init
loop-low-init c =
    let fl = c.ranges.lo in
    let fh = c.ranges.hi in
    let fa = c.ranges.accel in
    let fd = c.ranges.d in
    let fs : FitsSigned w128 c.stopping_way.result = record { sfits = c.stopping_way.type_inv } in
    let e = simp to_z-of_z at c.stopping_way.ensures.value in
    let t = simp to_z-of_z at c.if-stopping_way-d.false in
    let o : c.args.d <ℤ stopping_way c.args.hi c.args.accel = omega (arith, ints, e, t) in
    let l = apart c.args.lo c.args.hi c.args.accel c.args.d c.requires.order c.requires.stops o in
    let b = c.requires.order in
    let s = c.requires.stops in
    simp to_z-of_z (record { from = omega (arith, ints); order = l; to = omega (arith, ints); stops = s; past = o })

pub loop-low-smaller-then-stopping_way-d-2 : goal.loop-low-smaller-then-stopping_way-d-2
loop-low-smaller-then-stopping_way-d-2 c =
    let fm : FitsSigned w128 c.between-middle.result = record { sfits = c.between-middle.type_inv } in
    simp to_z-of_z (nearer_low (to_z w128 c.loop-low.low-bits) (to_z w128 c.loop-low.over-bits) c.between-middle.result c.between-middle.ensures.above c.between-middle.ensures.below)

pub loop-low-smaller : goal.loop-low-smaller
loop-low-smaller c =
    let fm : FitsSigned w128 c.between-middle.result = record { sfits = c.between-middle.type_inv } in
    simp to_z-of_z (nearer_over (to_z w128 c.loop-low.low-bits) (to_z w128 c.loop-low.over-bits) c.between-middle.result c.between-middle.ensures.above c.between-middle.ensures.below)

pub returns-clause-next_is_over : goal.returns-clause-next_is_over
returns-clause-next_is_over c less =
    let fa = c.ranges.accel in
    let fd = c.ranges.d in
    let fh = c.ranges.hi in
    let inv = simp to_z-of_z at c.loop-low.invariant in
    let order = inv.order in
    let to = inv.to in
    let past = inv.past in
    let t = c.loop-low-test.false in
    let e : to_z w128 c.loop-low.over-bits ≡ to_z w128 c.loop-low.low-bits +ℤ pos 1 = omega (arith, ints, t, order, to) in
    subst (λ (z : ℤ). c.args.d <ℤ stopping_way z c.args.accel) e past
