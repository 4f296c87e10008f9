-- What the guide promises, for all whole numbers.
use Rattle.std.specs.Prelude.{◌≡◌, ℕ, suc, true, ℤ, pos, neg_ℤ, ◌+ℤ◌, ◌-ℤ◌, ◌*ℤ◌, ◌≤ℤ◌, ◌<ℤ◌, unsigned_abs}
use Rattle.std.specs.Int.{int_min, int_rem_euclid}
use Rattle.dp_fixed.specs.{wrap_of}
use Rattle.dp_plant.specs.{entry}
use Rattle.dp_guide.specs.declared.motion.Motion.{Motion}
use Rattle.dp_guide.specs.Course.{IsGuided, IsJourney, IsNext, IsOnCourse, stopping_way, velocity_of}
use Rattle.dp_guide.specs.Motion.{IsMotion, IsStep, is_resting, is_still, left_east, left_heading, left_north, stepped, stepped_by}

abbrev pub CycleIsGuided : Type 0
CycleIsGuided =
    (rate accel v d w : ℤ) → pos 1 ≤ℤ rate → pos 1 ≤ℤ accel → IsOnCourse rate accel v d
    → IsNext rate accel v d w → IsGuided rate accel v d w

-- the velocity that is found from above is the greatest that may follow
abbrev pub VelocityIsNext : Type 0
VelocityIsNext =
    (rate accel v d : ℤ) → pos 1 ≤ℤ rate → pos 1 ≤ℤ accel → IsOnCourse rate accel v d
    → IsNext rate accel v d (velocity_of rate accel v d)

abbrev pub NextIsOnly : Type 0
NextIsOnly =
    (rate accel v d w z : ℤ) → IsNext rate accel v d w → IsNext rate accel v d z → w ≡ z

abbrev pub RestIsOnCourse : Type 0
RestIsOnCourse =
    (rate accel d : ℤ) → pos 1 ≤ℤ rate → pos 1 ≤ℤ accel → IsOnCourse rate accel (pos 0) d

-- after n cycles, n times the lesser of rate and acceleration at least the distance, it stands on
-- the target, and in each cycle after it
abbrev pub JourneyArrives : Type 0
JourneyArrives =
    (rate accel distance : ℤ) (v d : ℕ → ℤ) → pos 1 ≤ℤ rate → pos 1 ≤ℤ accel
    → IsJourney rate accel distance v d
    → (n : ℕ) → pos (unsigned_abs distance) ≤ℤ (pos n *ℤ int_min accel rate)
    → (d n ≡ pos 0) × (v (suc n) ≡ pos 0)

-- the way left to a heading falls by the velocity, across north too
abbrev pub HeadingNears : Type 0
HeadingNears =
    (to at turn w : ℤ) → pos 0 <ℤ turn → int_rem_euclid turn (pos 2) ≡ pos 0
    → (pos 0 ≤ℤ wrap_of (to -ℤ at) turn → (pos 0 ≤ℤ w) × (w ≤ℤ wrap_of (to -ℤ at) turn))
    → (wrap_of (to -ℤ at) turn ≤ℤ pos 0 → (wrap_of (to -ℤ at) turn ≤ℤ w) × (w ≤ℤ pos 0))
    → wrap_of (to -ℤ int_rem_euclid (at +ℤ w) turn) turn ≡ wrap_of (to -ℤ at) turn -ℤ w

-- each cycle keeps what the guide keeps, and its promises
abbrev pub StepsAreGuided : Type 0
StepsAreGuided = (m : Motion) → IsMotion m → IsMotion (stepped m) × IsStep m (stepped m)

-- n cycles serve a coordinate: n times the lesser of rate and acceleration is at least its way
abbrev pub Serves : ℕ → ℤ → ℤ → ℤ → Type 0
Serves n rate accel way = pos (unsigned_abs way) ≤ℤ (pos n *ℤ int_min accel rate)

-- from rest, after so many cycles as serve each coordinate, the setpoint is the target, and one
-- cycle later the guide rests; both hold from then on, since more cycles serve too
abbrev pub GuideArrives : Type 0
GuideArrives =
    (m : Motion) (n : ℕ) → IsMotion m → is_still m.velocity ≡ true
    → Serves n (entry m.limits.rate 0) (entry m.limits.accel 0) (left_north m)
    → Serves n (entry m.limits.rate 1) (entry m.limits.accel 1) (left_east m)
    → Serves n (entry m.limits.rate 2) (entry m.limits.accel 2) (left_heading m)
    → ((stepped_by n m).here ≡ m.target) × (is_resting (stepped_by (suc n) m) ≡ true)

-- by hand: from rest, a rate of 5, an acceleration of 3, the target 20 ahead
pub record IsWorkedRow : Type 0 where
  pub first : IsNext (pos 5) (pos 3) (pos 0) (pos 20) (pos 3)
  pub second : IsNext (pos 5) (pos 3) (pos 3) (pos 17) (pos 5)
  pub third : IsNext (pos 5) (pos 3) (pos 5) (pos 12) (pos 5)
  pub fourth : IsNext (pos 5) (pos 3) (pos 5) (pos 7) (pos 5)
  pub fifth : IsNext (pos 5) (pos 3) (pos 5) (pos 2) (pos 2)
  pub sixth : IsNext (pos 5) (pos 3) (pos 2) (pos 0) (pos 0)
  pub behind : IsNext (pos 5) (pos 3) (neg_ℤ (pos 5)) (neg_ℤ (pos 2)) (neg_ℤ (pos 2))
  pub five : stopping_way (pos 5) (pos 3) ≡ pos 7
  pub back : stopping_way (neg_ℤ (pos 8)) (pos 3) ≡ neg_ℤ (pos 15)
