-- The ranges of the plane's values.
use Rattle.std.specs.Prelude.{ℕ, ◌≤◌, ◌^◌, List, ℤ, pos, ◌+ℤ◌, ◌*ℤ◌, ◌≤ℤ◌, unsigned_abs}
use Rattle.dp_fixed.specs.Scale.{full_scale, full_scale_squared}
use Rattle.dp_plant.specs.declared.place.Place.{Place}
use Rattle.dp_plant.specs.declared.gains.Gains.{Gains}
use Rattle.dp_plant.specs.declared.limits.Box3.{Box3}
use Rattle.dp_plant.specs.declared.limits.Setpoint.{Setpoint}
use Rattle.dp_plant.specs.declared.plane.Component.{Component}
use Rattle.dp_plant.specs.declared.plane.PlaneState.{PlaneState}
use Rattle.dp_plant.specs.Vectors.{entry}
use Rattle.dp_plant.specs.Observer.{north_of, east_of}

-- each coordinate is within 2^56 of zero
pub record IsComponentWithin (x : Component) : Type 0 where
  pub eta : unsigned_abs x.eta ≤ 2 ^ 56
  pub beta : unsigned_abs x.beta ≤ 2 ^ 56
  pub vel : unsigned_abs x.vel ≤ 2 ^ 56
  pub wave_p : unsigned_abs x.wave_p ≤ 2 ^ 56
  pub wave_q : unsigned_abs x.wave_q ≤ 2 ^ 56

pub record IsPlaneWithin (x : PlaneState) : Type 0 where
  pub north : IsComponentWithin (north_of x)
  pub east : IsComponentWithin (east_of x)

-- both parts of a vector are within a number of zero
pub record IsVectorWithin (limit : ℕ) (p : Place) : Type 0 where
  pub north : unsigned_abs p.north ≤ limit
  pub east : unsigned_abs p.east ≤ limit

-- a measured place, brought to the vessel's origin, is within 2^44 of zero
abbrev pub IsMeasuredPlace : Place → Type 0
IsMeasuredPlace p = IsVectorWithin (2 ^ 44) p

-- a share lies from 0 to one
pub record IsShare (k : ℤ) : Type 0 where
  pub low : pos 0 ≤ℤ k
  pub high : k ≤ℤ full_scale

-- the ranges of the gains that the observer reads
pub record IsObserverGains (g : Gains) : Type 0 where
  pub k2 : IsShare g.k2
  pub k3 : IsShare g.k3
  pub k4 : IsShare g.k4
  pub leak : IsShare g.leak
  pub damp : IsShare g.damp
  pub wave_pp : unsigned_abs (entry g.wave 0) ≤ 2 ^ 30
  pub wave_pq : unsigned_abs (entry g.wave 1) ≤ 2 ^ 30
  pub wave_qp : unsigned_abs (entry g.wave 2) ≤ 2 ^ 30
  pub wave_qq : unsigned_abs (entry g.wave 3) ≤ 2 ^ 30
  pub k1_p : unsigned_abs (entry g.k1 0) ≤ 2 ^ 30
  pub k1_q : unsigned_abs (entry g.k1 1) ≤ 2 ^ 30

-- a limit of the bias lies from 0 to 2^31
pub record IsBiasLimit (k : ℤ) : Type 0 where
  pub low : pos 0 ≤ℤ k
  pub high : unsigned_abs k ≤ 2 ^ 31

-- the ranges of the gains that the control law reads
pub record IsLawGains (g : Gains) : Type 0 where
  pub kp_surge : IsShare (entry g.kp 0)
  pub kp_sway : IsShare (entry g.kp 1)
  pub kd_surge : IsShare (entry g.kd 0)
  pub kd_sway : IsShare (entry g.kd 1)
  pub bias_surge : IsBiasLimit (entry g.bias 0)
  pub bias_sway : IsBiasLimit (entry g.bias 1)

-- a range of demands holds zero, and is within 2^31 of it
pub record IsDemandRange (lo hi : ℤ) : Type 0 where
  pub below : lo ≤ℤ pos 0
  pub above : pos 0 ≤ℤ hi
  pub low : unsigned_abs lo ≤ 2 ^ 31
  pub high : unsigned_abs hi ≤ 2 ^ 31

-- the ranges of a box on surge and sway
pub record IsPlaneBox (box : Box3) : Type 0 where
  pub surge : IsDemandRange (entry box.lo 0) (entry box.hi 0)
  pub sway : IsDemandRange (entry box.lo 1) (entry box.hi 1)

-- a setpoint's place is within 2^43 of zero
abbrev pub IsPlaneSetpoint : Setpoint → Type 0
IsPlaneSetpoint s = IsVectorWithin (2 ^ 43) s.at

-- a sine pair is no longer than one
pub record IsPair (pair : ℤ × ℤ) : Type 0 where
  pub short : ((pair.0 *ℤ pair.0) +ℤ (pair.1 *ℤ pair.1)) ≤ℤ full_scale_squared

-- numbers on surge and sway are within a limit of zero
pub record IsSurgeSwayWithin (limit : ℕ) (u : List ℤ) : Type 0 where
  pub surge : unsigned_abs (entry u 0) ≤ limit
  pub sway : unsigned_abs (entry u 1) ≤ limit

-- what pushes, the demand and the wind together, is within 2^32 of zero on each axis
abbrev pub IsPush : List ℤ → Type 0
IsPush push = IsSurgeSwayWithin (2 ^ 32) push

-- a demand, and the wind's push, are within 2^31 of zero on each axis
abbrev pub IsDemand : List ℤ → Type 0
IsDemand demand = IsSurgeSwayWithin (2 ^ 31) demand
