-- The ranges of a state.
use Rattle.std.specs.Prelude.{◌≡◌, ◌<◌, ◌≤◌, ◌^◌, min, All, length, pos, ◌≤ℤ◌, ◌<ℤ◌, unsigned_abs}
use Rattle.dp_plant.specs.declared.plant.Plant.{Plant}
use Rattle.dp_plant.specs.declared.yaw.YawState.{YawState}
use Rattle.dp_cert.specs.CertifiedSet.{IsInCertifiedSet}
use Rattle.dp_alloc.specs.Ranges.{IsDemandWithin}
use Rattle.dp_plant.specs.Yaw.{turn}
use Rattle.dp_reftest.specs.Window.{IsKept}
use Rattle.dp_machine.specs.declared.state.State.{State}
use Rattle.dp_machine.specs.Step.{kept_at, limits_at}

-- a heading from 0 up to but not including a whole turn, a bias within 2^38 and a rate within 2^53
-- of zero
pub record IsYawInRange (x : YawState) : Type 0 where
  pub psi_low : pos 0 ≤ℤ x.psi
  pub psi_high : x.psi <ℤ turn
  pub beta : unsigned_abs x.beta ≤ 2 ^ 38
  pub rate : unsigned_abs x.rate ≤ 2 ^ 53

-- the ranges of the states of a plant's computers
pub record IsStateWithin (p : Plant) (s : State) : Type 0 where
  pub count : s.count ≤ 2 ^ 20
  -- without a wave filter there are no waves, and the form V is at most N²
  pub plane : IsInCertifiedSet p.cert s.plane
  pub yaw : IsYawInRange s.yaw
  pub heading : s.heading < 36000
  pub wind : s.wind < 36000
  -- no group is lost that the plant doesn't have
  pub lost : s.lost < 2 ^ p.groups
  pub first : IsKept (limits_at p 0).window s.count (kept_at s.samples 0)
  pub second : IsKept (limits_at p 1).window s.count (kept_at s.samples 1)
  pub third : IsKept (limits_at p 2).window s.count (kept_at s.samples 2)
  -- one for each cycle, up to 60
  pub few : length s.demands.items ≡ min 60 s.count
  pub demands : All IsDemandWithin s.demands.items
