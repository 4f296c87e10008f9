-- What a guide keeps, and where it arrives.
use Rattle.std.proofs.Common.{◌≡◌, refl, sym, subst, ap, ◌∙◌, ℕ, zero, suc, ◌≤◌, ◌^◌, ◌==◌, ◌&&◌, Bool, true, false, arith, ℤ, pos, neg_ℤ, ◌+ℤ◌, ◌-ℤ◌, ◌*ℤ◌, ◌≤ℤ◌, ◌<ℤ◌, unsigned_abs}
use Rattle.std.specs.Int.{int_min, int_rem_euclid}
use Rattle.std.proofs.lemmas.Int.{ints, clamps, by_lt_z}
use Rattle.std.proofs.lemmas.Bool.{and_parts}
use Rattle.dp_fixed.specs.{IsWrapped, wrap_of}
use Rattle.dp_fixed.proofs.Wraps.{wrap_is}
use Rattle.dp_plant.specs.declared.limits.Setpoint.{Setpoint}
use Rattle.dp_plant.specs.{IsPlaneSetpoint, IsSetpointWithin, IsYawSetpoint, entry, turn}
use Rattle.dp_guide.specs.declared.motion.GuideLimits.{GuideLimits}
use Rattle.dp_guide.specs.declared.motion.Motion.{Motion}
use Rattle.dp_guide.specs.declared.motion.Velocity.{Velocity}
use Rattle.dp_guide.specs.Course.{IsGuided, IsJourney, IsNext, IsOnCourse, velocity_of}
use Rattle.dp_guide.specs.Motion.{AreLimits, IsLimit, IsMotion, IsStep, begun, headed, is_resting, is_there, is_still, left_east, left_heading, left_north, moved, moved_with, stepped, stepped_by, velocity_next}
use Rattle.dp_guide.specs.Laws.{Serves}
use Rattle.dp_guide.proofs.Courses.{guided, journey_arrives, next_multiple, rest_on_course, velocity_is_next}
use Rattle.dp_guide.proofs.Headings.{heading_nears}

-- what is left of a place falls by the velocity
falls : (to at v : ℤ) → to -ℤ (at +ℤ v) ≡ (to -ℤ at) -ℤ v
falls to at v = omega (arith, ints)

-- a place between its old place and the target is in the range of both
place_between : (to at rate accel v w : ℤ) → unsigned_abs to ≤ 2 ^ 43 → unsigned_abs at ≤ 2 ^ 43 → IsGuided rate accel v (to -ℤ at) w → unsigned_abs (at +ℤ w) ≤ 2 ^ 43
place_between to at rate accel v w t h g = by_lt_z (to -ℤ at) (pos 0)
    (λ behind. let b = g.not_past_behind (omega (arith, ints, behind)) in omega (arith, ints, b.0, b.1, t, h))
    (λ ahead. let b = g.not_past_ahead ahead in omega (arith, ints, b.0, b.1, t, h))

rest_range : (a d : ℤ) → pos 0 <ℤ d → (pos 0 ≤ℤ int_rem_euclid a d) × (int_rem_euclid a d <ℤ d)
rest_range (pos a) (pos b) h = (omega (arith, ints), omega (arith, ints))
rest_range a d h = grind (arith, ints)

turn_is_positive : pos 0 <ℤ turn
turn_is_positive = omega (arith, ints)

turn_is_even : int_rem_euclid turn (pos 2) ≡ pos 0
turn_is_even = refl

-- a cycle keeps its promises, whatever the velocities are by which the coordinates are guided
pub kept : (m : Motion) (v : Velocity) → IsMotion m
    → IsGuided (entry m.limits.rate 0) (entry m.limits.accel 0) m.velocity.north (left_north m) v.north
    → IsGuided (entry m.limits.rate 1) (entry m.limits.accel 1) m.velocity.east (left_east m) v.east
    → IsGuided (entry m.limits.rate 2) (entry m.limits.accel 2) m.velocity.heading (left_heading m) v.heading
    → IsMotion (moved_with m v) × IsStep m (moved_with m v)
kept m v k north east heading =
    let n = falls m.target.at.north m.here.at.north v.north in
    let e = falls m.target.at.east m.here.at.east v.east in
    let h = heading_nears m.target.psi m.here.psi turn v.heading turn_is_positive turn_is_even heading.not_past_ahead heading.not_past_behind in
    let psi = rest_range (m.here.psi +ℤ v.heading) turn turn_is_positive in (
      record {
        limits = k.limits;
        here = record {
          place = record {
            north = place_between m.target.at.north m.here.at.north (entry m.limits.rate 0) (entry m.limits.accel 0) m.velocity.north v.north k.target.place.north k.here.place.north north;
            east = place_between m.target.at.east m.here.at.east (entry m.limits.rate 1) (entry m.limits.accel 1) m.velocity.east v.east k.target.place.east k.here.place.east east;
          };
          heading = record { low = psi.0; high = psi.1 };
        };
        target = k.target;
        north = subst (IsOnCourse (entry m.limits.rate 0) (entry m.limits.accel 0) v.north) (sym n) north.on_course;
        east = subst (IsOnCourse (entry m.limits.rate 1) (entry m.limits.accel 1) v.east) (sym e) east.on_course;
        heading = subst (IsOnCourse (entry m.limits.rate 2) (entry m.limits.accel 2) v.heading) (sym h) heading.on_course;
      },
      record { north = north; east = east; heading = heading; north_left = n; east_left = e; heading_left = h },
    )

velocity_guided : (rate accel v d : ℤ) → IsLimit rate → IsLimit accel → IsOnCourse rate accel v d → IsGuided rate accel v d (velocity_of rate accel v d)
velocity_guided rate accel v d r a o = guided rate accel v d (velocity_of rate accel v d) r.low a.low o (velocity_is_next rate accel v d r.low a.low o)

pub step_kept : (m : Motion) → IsMotion m → IsMotion (stepped m) × IsStep m (stepped m)
unfolding stepped
step_kept m k = kept m (velocity_next m) k
    (velocity_guided (entry m.limits.rate 0) (entry m.limits.accel 0) m.velocity.north (left_north m) k.limits.north_rate k.limits.north_accel k.north)
    (velocity_guided (entry m.limits.rate 1) (entry m.limits.accel 1) m.velocity.east (left_east m) k.limits.east_rate k.limits.east_accel k.east)
    (velocity_guided (entry m.limits.rate 2) (entry m.limits.accel 2) m.velocity.heading (left_heading m) k.limits.heading_rate k.limits.heading_accel k.heading)

pub step_is : (m n : Motion) → IsMotion m → n ≡ stepped m → IsStep m n
step_is m n k e = subst (IsStep m) (sym e) (step_kept m k).1

pub step_is_kept : (m n : Motion) → IsMotion m → n ≡ stepped m → IsMotion n
step_is_kept m n k e = subst IsMotion (sym e) (step_kept m k).0

on_rest : (rate accel v d : ℤ) → IsLimit rate → IsLimit accel → v ≡ pos 0 → IsOnCourse rate accel v d
on_rest rate accel v d r a e = subst (λ z. IsOnCourse rate accel z d) (sym e) (rest_on_course rate accel d r.low a.low)

pub begun_kept : (l : GuideLimits) (s : Setpoint) → AreLimits l → IsSetpointWithin s → IsMotion (begun l s)
begun_kept l s k w = record {
  limits = k;
  here = w;
  target = w;
  north = rest_on_course (entry l.rate 0) (entry l.accel 0) (s.at.north -ℤ s.at.north) k.north_rate.low k.north_accel.low;
  east = rest_on_course (entry l.rate 1) (entry l.accel 1) (s.at.east -ℤ s.at.east) k.east_rate.low k.east_accel.low;
  heading = rest_on_course (entry l.rate 2) (entry l.accel 2) (wrap_of (s.psi -ℤ s.psi) turn) k.heading_rate.low k.heading_accel.low;
}

zero_is : (z : ℤ) → (unsigned_abs z == 0) ≡ true → z ≡ pos 0
zero_is z e = grind (arith, ints)

pub record Stands (v : Velocity) : Type 0 where
  pub north : v.north ≡ pos 0
  pub east : v.east ≡ pos 0
  pub heading : v.heading ≡ pos 0

pub stands : (v : Velocity) → is_still v ≡ true → Stands v
stands v e =
    let p = and_parts (unsigned_abs v.north == 0 && unsigned_abs v.east == 0) (unsigned_abs v.heading == 0) e in
    let q = and_parts (unsigned_abs v.north == 0) (unsigned_abs v.east == 0) p.0 in
    record { north = zero_is v.north q.0; east = zero_is v.east q.1; heading = zero_is v.heading p.1 }

-- a guide that rests may be given any target
pub headed_kept : (m : Motion) (s : Setpoint) → IsMotion m → IsSetpointWithin s → is_resting m ≡ true → IsMotion (headed m s)
headed_kept m s k w e =
    let p = and_parts (is_there m) (is_still m.velocity) e in
    let z = stands m.velocity p.1 in
    record {
      limits = k.limits;
      here = k.here;
      target = w;
      north = on_rest (entry m.limits.rate 0) (entry m.limits.accel 0) m.velocity.north (s.at.north -ℤ m.here.at.north) k.limits.north_rate k.limits.north_accel z.north;
      east = on_rest (entry m.limits.rate 1) (entry m.limits.accel 1) m.velocity.east (s.at.east -ℤ m.here.at.east) k.limits.east_rate k.limits.east_accel z.east;
      heading = on_rest (entry m.limits.rate 2) (entry m.limits.accel 2) m.velocity.heading (wrap_of (s.psi -ℤ m.here.psi) turn) k.limits.heading_rate k.limits.heading_accel z.heading;
    }

-- ---- where it arrives

pub kept_by : (n : ℕ) (m : Motion) → IsMotion m → IsMotion (stepped_by n m)
kept_by zero m k = k
kept_by (suc n) m k = (step_kept (stepped_by n m) (kept_by n m k)).0

limits_stay : (n : ℕ) (m : Motion) → (stepped_by n m).limits ≡ m.limits
unfolding stepped
limits_stay zero m = refl
limits_stay (suc n) m = limits_stay n m

target_stays : (n : ℕ) (m : Motion) → (stepped_by n m).target ≡ m.target
unfolding stepped
target_stays zero m = refl
target_stays (suc n) m = target_stays n m

pub north_journey : (m : Motion) → IsMotion m → m.velocity.north ≡ pos 0 → IsJourney (entry m.limits.rate 0) (entry m.limits.accel 0) (left_north m) (λ n. (stepped_by n m).velocity.north) (λ n. left_north (stepped_by n m))
unfolding stepped
north_journey m k z = record {
  at_rest = z;
  away = refl;
  next = λ n. subst (λ (l : GuideLimits). IsNext (entry l.rate 0) (entry l.accel 0) (stepped_by n m).velocity.north (left_north (stepped_by n m)) (velocity_next (stepped_by n m)).north) (limits_stay n m) (velocity_is_next _ _ _ _ (kept_by n m k).limits.north_rate.low (kept_by n m k).limits.north_accel.low (kept_by n m k).north);
  left = λ n. (step_kept (stepped_by n m) (kept_by n m k)).1.north_left;
}

pub east_journey : (m : Motion) → IsMotion m → m.velocity.east ≡ pos 0 → IsJourney (entry m.limits.rate 1) (entry m.limits.accel 1) (left_east m) (λ n. (stepped_by n m).velocity.east) (λ n. left_east (stepped_by n m))
unfolding stepped
east_journey m k z = record {
  at_rest = z;
  away = refl;
  next = λ n. subst (λ (l : GuideLimits). IsNext (entry l.rate 1) (entry l.accel 1) (stepped_by n m).velocity.east (left_east (stepped_by n m)) (velocity_next (stepped_by n m)).east) (limits_stay n m) (velocity_is_next _ _ _ _ (kept_by n m k).limits.east_rate.low (kept_by n m k).limits.east_accel.low (kept_by n m k).east);
  left = λ n. (step_kept (stepped_by n m) (kept_by n m k)).1.east_left;
}

pub heading_journey : (m : Motion) → IsMotion m → m.velocity.heading ≡ pos 0 → IsJourney (entry m.limits.rate 2) (entry m.limits.accel 2) (left_heading m) (λ n. (stepped_by n m).velocity.heading) (λ n. left_heading (stepped_by n m))
unfolding stepped
heading_journey m k z = record {
  at_rest = z;
  away = refl;
  next = λ n. subst (λ (l : GuideLimits). IsNext (entry l.rate 2) (entry l.accel 2) (stepped_by n m).velocity.heading (left_heading (stepped_by n m)) (velocity_next (stepped_by n m)).heading) (limits_stay n m) (velocity_is_next _ _ _ _ (kept_by n m k).limits.heading_rate.low (kept_by n m k).limits.heading_accel.low (kept_by n m k).heading);
  left = λ n. (step_kept (stepped_by n m) (kept_by n m k)).1.heading_left;
}

no_way : (to at : ℤ) → to -ℤ at ≡ pos 0 → at ≡ to
no_way to at e = omega (arith, ints)

-- two headings that no turn parts are one
no_turn : (to at : ℤ) → pos 0 ≤ℤ to → to <ℤ turn → pos 0 ≤ℤ at → at <ℤ turn → wrap_of (to -ℤ at) turn ≡ pos 0 → at ≡ to
no_turn to at a b c d e = parted (wrap_is (to -ℤ at) turn turn_is_positive turn_is_even)
  where
    whole : (k : ℤ) → to -ℤ at ≡ pos 0 +ℤ k *ℤ turn → at ≡ to
    whole k s = omega (arith, ints, s, a, b, c, d)

    parted : IsWrapped (to -ℤ at) turn (wrap_of (to -ℤ at) turn) → at ≡ to
    parted w = let s = w.same_angle in whole w.turns (s ∙ ap (λ z. z +ℤ w.turns *ℤ turn) e)

same_setpoint : (s t : Setpoint) → s.at.north ≡ t.at.north → s.at.east ≡ t.at.east → s.psi ≡ t.psi → s ≡ t
same_setpoint s t n e h = ap (λ z. made z s.at.east s.psi) n ∙ ap (λ z. made t.at.north z s.psi) e ∙ ap (λ z. made t.at.north t.at.east z) h
  where
    made : ℤ → ℤ → ℤ → Setpoint
    made north east psi = record { at = record { north = north; east = east }; psi = psi }

zero_tests : (z : ℤ) → z ≡ pos 0 → (unsigned_abs z == 0) ≡ true
zero_tests z e = ap (λ x. unsigned_abs x == 0) e

three_true : (a b c : Bool) → a ≡ true → b ≡ true → c ≡ true → (a && b && c) ≡ true
three_true a b c x y z = rw (x, y, z) refl

both_true : (a b : Bool) → a ≡ true → b ≡ true → (a && b) ≡ true
both_true a b x y = rw (x, y) refl

-- more cycles serve too
serves_more : (n : ℕ) (rate accel way : ℤ) → pos 1 ≤ℤ rate → pos 1 ≤ℤ accel → Serves n rate accel way → Serves (suc n) rate accel way
serves_more n rate accel way r a s =
    let e = next_multiple n (int_min accel rate) in
    omega (arith, ints, clamps, e, s)

pub arrives : (m : Motion) (n : ℕ) → IsMotion m → is_still m.velocity ≡ true
    → Serves n (entry m.limits.rate 0) (entry m.limits.accel 0) (left_north m)
    → Serves n (entry m.limits.rate 1) (entry m.limits.accel 1) (left_east m)
    → Serves n (entry m.limits.rate 2) (entry m.limits.accel 2) (left_heading m)
    → ((stepped_by n m).here ≡ m.target) × (is_resting (stepped_by (suc n) m) ≡ true)
arrives m n k still north east heading =
    let z = stands m.velocity still in
    let jn = journey_arrives (entry m.limits.rate 0) (entry m.limits.accel 0) (left_north m) _ _ k.limits.north_rate.low k.limits.north_accel.low (north_journey m k z.north) in
    let je = journey_arrives (entry m.limits.rate 1) (entry m.limits.accel 1) (left_east m) _ _ k.limits.east_rate.low k.limits.east_accel.low (east_journey m k z.east) in
    let jh = journey_arrives (entry m.limits.rate 2) (entry m.limits.accel 2) (left_heading m) _ _ k.limits.heading_rate.low k.limits.heading_accel.low (heading_journey m k z.heading) in
    let kn = kept_by n m k in
    let t = target_stays n m in
    let here = same_setpoint (stepped_by n m).here (stepped_by n m).target
    (no_way (stepped_by n m).target.at.north (stepped_by n m).here.at.north (jn n north).0)
    (no_way (stepped_by n m).target.at.east (stepped_by n m).here.at.east (je n east).0)
    (no_turn (stepped_by n m).target.psi (stepped_by n m).here.psi kn.target.heading.low kn.target.heading.high kn.here.heading.low kn.here.heading.high (jh n heading).0) in
    (here ∙ t, rests jn je jh)
  where
    more : (rate accel way : ℤ) → Serves n rate accel way → IsLimit rate → IsLimit accel → Serves (suc n) rate accel way
    more rate accel way s r a = serves_more n rate accel way r.low a.low s

    rests : ((i : ℕ) → Serves i (entry m.limits.rate 0) (entry m.limits.accel 0) (left_north m) → (left_north (stepped_by i m) ≡ pos 0) × ((stepped_by (suc i) m).velocity.north ≡ pos 0))
        → ((i : ℕ) → Serves i (entry m.limits.rate 1) (entry m.limits.accel 1) (left_east m) → (left_east (stepped_by i m) ≡ pos 0) × ((stepped_by (suc i) m).velocity.east ≡ pos 0))
        → ((i : ℕ) → Serves i (entry m.limits.rate 2) (entry m.limits.accel 2) (left_heading m) → (left_heading (stepped_by i m) ≡ pos 0) × ((stepped_by (suc i) m).velocity.heading ≡ pos 0))
        → is_resting (stepped_by (suc n) m) ≡ true
    rests jn je jh = both_true (is_there (stepped_by (suc n) m)) (is_still (stepped_by (suc n) m).velocity)
        (three_true _ _ _
        (zero_tests (left_north (stepped_by (suc n) m)) (jn (suc n) (more (entry m.limits.rate 0) (entry m.limits.accel 0) (left_north m) north k.limits.north_rate k.limits.north_accel)).0)
        (zero_tests (left_east (stepped_by (suc n) m)) (je (suc n) (more (entry m.limits.rate 1) (entry m.limits.accel 1) (left_east m) east k.limits.east_rate k.limits.east_accel)).0)
        (zero_tests (left_heading (stepped_by (suc n) m)) (jh (suc n) (more (entry m.limits.rate 2) (entry m.limits.accel 2) (left_heading m) heading k.limits.heading_rate k.limits.heading_accel)).0))
        (three_true _ _ _
        (zero_tests (stepped_by (suc n) m).velocity.north (jn n north).1)
        (zero_tests (stepped_by (suc n) m).velocity.east (je n east).1)
        (zero_tests (stepped_by (suc n) m).velocity.heading (jh n heading).1))
