-- A setpoint that moves to its target: north, east and the heading, each for itself.
use Rattle.std.specs.Prelude.{◌≡◌, ℕ, zero, suc, Bool, ◌&&◌, ◌==◌, ◌^◌, ℤ, pos, ◌+ℤ◌, ◌-ℤ◌, ◌≤ℤ◌, unsigned_abs, if◌then◌else◌}
use Rattle.std.specs.Int.{int_rem_euclid}
use Rattle.dp_fixed.specs.{wrap_of}
use Rattle.dp_plant.specs.declared.limits.Setpoint.{Setpoint}
use Rattle.dp_plant.specs.{IsSetpointWithin, entry, turn}
use Rattle.dp_guide.specs.declared.motion.GuideLimits.{GuideLimits}
use Rattle.dp_guide.specs.declared.motion.Motion.{Motion}
use Rattle.dp_guide.specs.declared.motion.Velocity.{Velocity}
use Rattle.dp_guide.specs.Course.{IsGuided, IsOnCourse, velocity_of}

-- a rate or an acceleration is from 1 to 2^31
pub record IsLimit (x : ℤ) : Type 0 where
  pub low : pos 1 ≤ℤ x
  pub high : x ≤ℤ pos (2 ^ 31)

pub record AreLimits (l : GuideLimits) : Type 0 where
  pub north_rate : IsLimit (entry l.rate 0)
  pub east_rate : IsLimit (entry l.rate 1)
  pub heading_rate : IsLimit (entry l.rate 2)
  pub north_accel : IsLimit (entry l.accel 0)
  pub east_accel : IsLimit (entry l.accel 1)
  pub heading_accel : IsLimit (entry l.accel 2)

-- how far the target lies north of the setpoint
abbrev pub left_north : Motion → ℤ
left_north m = m.target.at.north -ℤ m.here.at.north

-- how far it lies east
abbrev pub left_east : Motion → ℤ
left_east m = m.target.at.east -ℤ m.here.at.east

-- how far the heading has to turn, the shorter way round
abbrev pub left_heading : Motion → ℤ
left_heading m = wrap_of (m.target.psi -ℤ m.here.psi) turn

-- the velocities of the next cycle
abbrev pub velocity_next : Motion → Velocity
velocity_next m = record {
  north = velocity_of (entry m.limits.rate 0) (entry m.limits.accel 0) m.velocity.north
      (left_north m);
  east = velocity_of (entry m.limits.rate 1) (entry m.limits.accel 1) m.velocity.east
      (left_east m);
  heading = velocity_of (entry m.limits.rate 2) (entry m.limits.accel 2) m.velocity.heading
      (left_heading m);
}

-- a setpoint a cycle later
abbrev pub moved : Setpoint → Velocity → Setpoint
moved s v = record {
  at = record { north = s.at.north +ℤ v.north; east = s.at.east +ℤ v.east };
  psi = int_rem_euclid (s.psi +ℤ v.heading) turn;
}

abbrev pub moved_with : Motion → Velocity → Motion
moved_with m v = record {
  limits = m.limits;
  here = moved m.here v;
  target = m.target;
  velocity = v;
}

-- one cycle of the guide
unfoldable pub stepped : Motion → Motion
stepped m = moved_with m (velocity_next m)

abbrev pub no_velocity : Velocity
no_velocity = record { north = pos 0; east = pos 0; heading = pos 0 }

-- at rest on a setpoint
abbrev pub begun : GuideLimits → Setpoint → Motion
begun limits at = record { limits = limits; here = at; target = at; velocity = no_velocity }

-- all velocities are 0
abbrev pub is_still : Velocity → Bool
is_still v = unsigned_abs v.north == 0 && unsigned_abs v.east == 0 && unsigned_abs v.heading == 0

-- the setpoint is on its target
abbrev pub is_there : Motion → Bool
is_there m =
    unsigned_abs (left_north m) == 0 && unsigned_abs (left_east m) == 0
    && unsigned_abs (left_heading m) == 0

-- it is there, and stands
abbrev pub is_resting : Motion → Bool
is_resting m = is_there m && is_still m.velocity

-- with another target
abbrev pub headed : Motion → Setpoint → Motion
headed m to = record { limits = m.limits; here = m.here; target = to; velocity = m.velocity }

-- a target is taken where the guide rests
abbrev pub gone : Motion → Setpoint → Motion
gone m to = if is_resting m then headed m to else m

-- what the guide keeps
pub record IsMotion (m : Motion) : Type 0 where
  pub limits : AreLimits m.limits
  pub here : IsSetpointWithin m.here
  pub target : IsSetpointWithin m.target
  pub north : IsOnCourse (entry m.limits.rate 0) (entry m.limits.accel 0) m.velocity.north
      (left_north m)
  pub east : IsOnCourse (entry m.limits.rate 1) (entry m.limits.accel 1) m.velocity.east
      (left_east m)
  pub heading : IsOnCourse (entry m.limits.rate 2) (entry m.limits.accel 2) m.velocity.heading
      (left_heading m)

-- what a cycle from m to n promises: each coordinate is guided, and what is left falls by the
-- velocity
pub record IsStep (m n : Motion) : Type 0 where
  pub north : IsGuided (entry m.limits.rate 0) (entry m.limits.accel 0) m.velocity.north
      (left_north m) n.velocity.north
  pub east : IsGuided (entry m.limits.rate 1) (entry m.limits.accel 1) m.velocity.east
      (left_east m) n.velocity.east
  pub heading : IsGuided (entry m.limits.rate 2) (entry m.limits.accel 2) m.velocity.heading
      (left_heading m) n.velocity.heading
  pub north_left : left_north n ≡ left_north m -ℤ n.velocity.north
  pub east_left : left_east n ≡ left_east m -ℤ n.velocity.east
  pub heading_left : left_heading n ≡ left_heading m -ℤ n.velocity.heading

-- n cycles later, with no other target
abbrev pub stepped_by : ℕ → Motion → Motion
stepped_by zero m = m
stepped_by (suc n) m = stepped (stepped_by n m)
