use Rattle.std.proofs.Common.{arith, sym, subst, unsigned_abs, ◌≡◌, ◌≤◌, ◌^◌, ◌≤ℤ◌, ◌<ℤ◌, neg_ℤ, FitsSigned, pos, ℤ}
use Rattle.std.proofs.lemmas.Int.{ints, to_z-of_z}
use mir.Syntax.{w128}
use Rattle.dp_guide.specs.Course.{IsFastest, IsNext, IsOnCourse}
use Rattle.dp_guide.proofs.Courses.{guided, turned, velocity_is}
use Rattle.dp_guide.proofs.velocity.next_velocity.Goals as goal

within : (rate w : ℤ) → neg_ℤ rate ≤ℤ w → w ≤ℤ rate → rate ≤ℤ pos (2 ^ 31) → unsigned_abs w ≤ 2 ^ 31
within rate w l h r = omega (arith, ints)

both : (rate accel v d x y : ℤ) → x ≡ neg_ℤ v → y ≡ neg_ℤ d → IsOnCourse rate accel (neg_ℤ v) (neg_ℤ d) → IsOnCourse rate accel x y
both rate accel v d x y e f o = subst (λ (z : ℤ). IsOnCourse rate accel z y) (sym e) (subst (IsOnCourse rate accel (neg_ℤ v)) (sym f) o)

behind : (rate accel v d x y w r : ℤ) → x ≡ neg_ℤ v → y ≡ neg_ℤ d → d <ℤ pos 0 → IsFastest rate accel x y w → r ≡ neg_ℤ w → IsNext rate accel v d r
behind rate accel v d x y w r e f b o g =
    let h : w ≡ neg_ℤ r = omega (arith, ints) in
    record {
      ahead = λ k. absurd (omega (arith, ints));
      behind = λ k. subst (IsFastest rate accel (neg_ℤ v) (neg_ℤ d)) h (subst (λ (z : ℤ). IsFastest rate accel z (neg_ℤ d) w) e (subst (λ (z : ℤ). IsFastest rate accel x z w) f o));
    }

pub fastest_ahead-requires-clause-on_course : goal.fastest_ahead-requires-clause-on_course
fastest_ahead-requires-clause-on_course c =
    let fx : FitsSigned w128 c.negated.result = record { sfits = c.negated.type_inv } in
    let fy : FitsSigned w128 c.negated-then-d-lt0.result = record { sfits = c.negated-then-d-lt0.type_inv } in
    let fv = c.ranges.v in
    let fr = c.ranges.rate in
    let fa = c.ranges.accel in
    let fd = c.ranges.d in
    let e = simp to_z-of_z at c.negated.ensures.value in
    let f = simp to_z-of_z at c.negated-then-d-lt0.ensures.value in
    simp to_z-of_z (both c.args.rate c.args.accel c.args.v c.args.d _ _ e f (turned c.args.rate c.args.accel c.args.v c.args.d c.requires.on_course))

pub returns-then-d-lt0 : goal.returns-then-d-lt0
returns-then-d-lt0 c =
    let fx : FitsSigned w128 c.negated.result = record { sfits = c.negated.type_inv } in
    let fy : FitsSigned w128 c.negated-then-d-lt0.result = record { sfits = c.negated-then-d-lt0.type_inv } in
    let fw : FitsSigned w128 c.fastest_ahead.result = record { sfits = c.fastest_ahead.type_inv } in
    let fz : FitsSigned w128 c.negated-then-d-lt0-2.result = record { sfits = c.negated-then-d-lt0-2.type_inv } in
    let fv = c.ranges.v in
    let fr = c.ranges.rate in
    let fa = c.ranges.accel in
    let fd = c.ranges.d in
    let e = simp to_z-of_z at c.negated.ensures.value in
    let f = simp to_z-of_z at c.negated-then-d-lt0.ensures.value in
    let g = simp to_z-of_z at c.negated-then-d-lt0-2.ensures.value in
    let t = simp to_z-of_z at c.if-d-lt0.true in
    let o = simp to_z-of_z at c.fastest_ahead.ensures.fastest in
    let n = behind c.args.rate c.args.accel c.args.v c.args.d _ _ c.fastest_ahead.result _ e f (omega (arith, ints, t)) o g in
    let k = guided c.args.rate c.args.accel c.args.v c.args.d _ c.requires.rate_low c.requires.accel_low c.requires.on_course n in
    simp to_z-of_z (record { value = velocity_is c.args.rate c.args.accel c.args.v c.args.d _ c.requires.rate_low c.requires.accel_low c.requires.on_course n; small = within c.args.rate _ k.rate_kept.0 k.rate_kept.1 c.requires.rate_high })

pub returns-else-d-lt0 : goal.returns-else-d-lt0
returns-else-d-lt0 c =
    let fw : FitsSigned w128 c.fastest_ahead-else-d-lt0.result = record { sfits = c.fastest_ahead-else-d-lt0.type_inv } in
    let fv = c.ranges.v in
    let fr = c.ranges.rate in
    let fa = c.ranges.accel in
    let fd = c.ranges.d in
    let t = simp to_z-of_z at c.if-d-lt0.false in
    let o = simp to_z-of_z at c.fastest_ahead-else-d-lt0.ensures.fastest in
    let n : IsNext c.args.rate c.args.accel c.args.v c.args.d c.fastest_ahead-else-d-lt0.result = record { ahead = λ h. o; behind = λ h. absurd (omega (arith, ints, t, h)) } in
    let k = guided c.args.rate c.args.accel c.args.v c.args.d _ c.requires.rate_low c.requires.accel_low c.requires.on_course n in
    simp to_z-of_z (record { value = velocity_is c.args.rate c.args.accel c.args.v c.args.d _ c.requires.rate_low c.requires.accel_low c.requires.on_course n; small = within c.args.rate _ k.rate_kept.0 k.rate_kept.1 c.requires.rate_high })
