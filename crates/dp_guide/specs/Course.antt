-- One coordinate of a setpoint that moves to its target with a limited rate and acceleration.
use Rattle.std.specs.Prelude.{◌≡◌, ℕ, zero, suc, ℤ, pos, negsuc, neg_ℤ, ◌+ℤ◌, ◌-ℤ◌, ◌*ℤ◌, ◌≤ℤ◌, ◌<ℤ◌, int_le, int_lt, unsigned_abs, if◌then◌else◌}
use Rattle.std.specs.Int.{int_min, int_max}

-- the sum of the first n of the numbers v, v - accel, v - 2·accel, .., each counted as 0 where it
-- is below 0
abbrev pub ways : ℕ → ℤ → ℤ → ℤ
ways zero v accel = pos 0
ways (suc n) v accel = ways n v accel +ℤ int_max (pos 0) (v -ℤ pos n *ℤ accel)

-- the way from a cycle with velocity v until it stands, slowing down by accel in each cycle; v
-- parts serve, since accel is at least 1
abbrev pub stopping_way : ℤ → ℤ → ℤ
stopping_way (pos n) accel = ways n (pos n) accel
stopping_way (negsuc n) accel = neg_ℤ (ways (suc n) (pos (suc n)) accel)

-- the least velocity that rate and acceleration allow after v
abbrev pub lowest : ℤ → ℤ → ℤ → ℤ
lowest rate accel v = int_max (v -ℤ accel) (neg_ℤ rate)

-- the greatest
abbrev pub highest : ℤ → ℤ → ℤ → ℤ
highest rate accel v = int_min (v +ℤ accel) rate

-- the first of top, top - 1, .., down to top - n, with which it can still stop within d
abbrev pub first_that_stops : ℤ → ℤ → ℕ → ℤ → ℤ
first_that_stops accel d zero top = top
first_that_stops accel d (suc n) top =
    if int_le (stopping_way top accel) d then top
    else first_that_stops accel d n (top -ℤ pos 1)

-- the greatest velocity after v with which it can still stop within d, the target being d ahead
abbrev pub fastest_ahead : ℤ → ℤ → ℤ → ℤ → ℤ
fastest_ahead rate accel v d =
    first_that_stops accel d (unsigned_abs (highest rate accel v -ℤ lowest rate accel v))
    (highest rate accel v)

-- the velocity that follows v where the target lies d away, ahead or behind
unfoldable pub velocity_of : ℤ → ℤ → ℤ → ℤ → ℤ
velocity_of rate accel v d =
    if int_lt d (pos 0) then neg_ℤ (fastest_ahead rate accel (neg_ℤ v) (neg_ℤ d))
    else fastest_ahead rate accel v d

-- ---- the same as a relation, and what is promised

-- w may follow v where the target is d ahead: within the rate, within the acceleration, and it can
-- still stop by the target
pub record IsAdmissible (rate accel v d w : ℤ) : Type 0 where
  pub low : int_max (v -ℤ accel) (neg_ℤ rate) ≤ℤ w
  pub high : w ≤ℤ int_min (v +ℤ accel) rate
  pub stops : stopping_way w accel ≤ℤ d

-- the greatest velocity that may follow v
pub record IsFastest (rate accel v d w : ℤ) : Type 0 where
  pub admissible : IsAdmissible rate accel v d w
  pub greatest : (z : ℤ) → IsAdmissible rate accel v d z → z ≤ℤ w

-- the velocity that follows v where the target lies d away
pub record IsNext (rate accel v d w : ℤ) : Type 0 where
  pub ahead : pos 0 ≤ℤ d → IsFastest rate accel v d w
  pub behind : d <ℤ pos 0 → IsFastest rate accel (neg_ℤ v) (neg_ℤ d) (neg_ℤ w)

-- what the guide keeps: within the rate, not away from the target, and it can still stop by the
-- target
pub record IsOnCourse (rate accel v d : ℤ) : Type 0 where
  pub low : neg_ℤ rate ≤ℤ v
  pub high : v ≤ℤ rate
  pub ahead : pos 0 <ℤ d → pos 0 ≤ℤ v
  pub behind : d <ℤ pos 0 → v ≤ℤ pos 0
  pub stops : stopping_way (pos (unsigned_abs v) -ℤ accel) accel ≤ℤ pos (unsigned_abs d)

-- the promises of one cycle, from velocity v to w: the rate, the acceleration, not past the target,
-- and a least move
pub record IsGuided (rate accel v d w : ℤ) : Type 0 where
  pub rate_kept : (neg_ℤ rate ≤ℤ w) × (w ≤ℤ rate)
  pub accel_kept : (neg_ℤ accel ≤ℤ (w -ℤ v)) × ((w -ℤ v) ≤ℤ accel)
  pub not_past_ahead : pos 0 ≤ℤ d → (pos 0 ≤ℤ w) × (w ≤ℤ d)
  pub not_past_behind : d ≤ℤ pos 0 → (d ≤ℤ w) × (w ≤ℤ pos 0)
  pub moves : int_min (int_min accel rate) (pos (unsigned_abs d)) ≤ℤ pos (unsigned_abs w)
  pub on_course : IsOnCourse rate accel w (d -ℤ w)

-- the velocities and the ways left, cycle by cycle, of a coordinate at rest with its target at a
-- distance
pub record IsJourney (rate accel distance : ℤ) (v d : ℕ → ℤ) : Type 0 where
  pub at_rest : v 0 ≡ pos 0
  pub away : d 0 ≡ distance
  pub next : (n : ℕ) → IsNext rate accel (v n) (d n) (v (suc n))
  pub left : (n : ℕ) → d (suc n) ≡ d n -ℤ v (suc n)
