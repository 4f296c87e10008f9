-- The ranges of yaw's values.
use Rattle.std.specs.Prelude.{ℕ, ◌≤◌, ◌<◌, ◌^◌, ℤ, pos, ◌≤ℤ◌, ◌<ℤ◌, unsigned_abs}
use Rattle.dp_fixed.specs.Scale.{full_scale}
use Rattle.dp_plant.specs.declared.gains.YawGains.{YawGains}
use Rattle.dp_plant.specs.declared.limits.Box3.{Box3}
use Rattle.dp_plant.specs.declared.limits.Setpoint.{Setpoint}
use Rattle.dp_plant.specs.declared.yaw.YawState.{YawState}
use Rattle.dp_plant.specs.Vectors.{entry}
use Rattle.dp_plant.specs.Ranges.{IsShare}
use Rattle.dp_plant.specs.Yaw.{turn}

-- each part is within 2^56 of zero
pub record IsYawWithin (x : YawState) : Type 0 where
  pub psi : unsigned_abs x.psi ≤ 2 ^ 56
  pub beta : unsigned_abs x.beta ≤ 2 ^ 56
  pub rate : unsigned_abs x.rate ≤ 2 ^ 56

-- a gain between two numbers
pub record IsGainBetween (least greatest k : ℤ) : Type 0 where
  pub low : least ≤ℤ k
  pub high : k ≤ℤ greatest

-- the ranges of yaw's gains: what leaks and damps is never nothing, so bias and rate stay bounded
pub record IsYawGains (g : YawGains) : Type 0 where
  pub k2 : IsShare g.k2
  pub kp : IsShare g.kp
  pub kd : IsShare g.kd
  pub k3 : IsGainBetween (pos 0) (pos (2 ^ 17)) g.k3
  pub k4 : IsGainBetween (pos 0) (pos (2 ^ 24)) g.k4
  pub leak : IsGainBetween (pos (2 ^ 17)) full_scale g.leak
  pub damp : IsGainBetween (pos (2 ^ 17)) full_scale g.damp
  pub bias : IsGainBetween (pos 0) (pos (2 ^ 38)) g.bias

-- the range of demands holds zero, and is within 2^38 of it
pub record IsYawBox (box : Box3) : Type 0 where
  pub below : entry box.lo 2 ≤ℤ pos 0
  pub above : pos 0 ≤ℤ entry box.hi 2
  pub low : unsigned_abs (entry box.lo 2) ≤ 2 ^ 38
  pub high : unsigned_abs (entry box.hi 2) ≤ 2 ^ 38

-- a setpoint's heading, in nanodegrees, is less than one turn
pub record IsYawSetpoint (s : Setpoint) : Type 0 where
  pub low : pos 0 ≤ℤ s.psi
  pub high : s.psi <ℤ turn

-- a measured heading, in hundredths of a degree, is less than one turn
abbrev pub IsMeasuredHeading : ℕ → Type 0
IsMeasuredHeading h = h < 36000

-- what pushes in yaw, the demand and the wind together, is within 2^39 of zero
abbrev pub IsYawPush : ℤ → Type 0
IsYawPush push = unsigned_abs push ≤ 2 ^ 39
