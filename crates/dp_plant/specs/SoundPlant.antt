-- A plant within the ranges of a plant file, and one that can be run.
use Rattle.std.specs.Prelude.{◌≤◌, length, All}
use Rattle.dp_plant.specs.declared.plant.Plant.{Plant}
use Rattle.dp_plant.specs.Ranges.{IsLawGains, IsObserverGains}
use Rattle.dp_plant.specs.YawRanges.{IsYawGains}
pub use Rattle.dp_plant.specs.PlantRanges.{AreGroups, AreMasses, AreRefLimits, AreWindShares, IsCaseWithin, IsLever, IsOfVersion, IsOriginWithin, IsSetpointWithin, IsShareRow, IsThrusterWithin}

-- each number is in the range that a plant file allows, but for those of the gains, which are
-- judged with the certificate; so is every plant
pub record IsPlantWithin (p : Plant) : Type 0 where
  pub version : IsOfVersion p.version p.gains p.cert.parts
  pub cycle_low : 100 ≤ p.cycle_ms
  pub cycle_high : p.cycle_ms ≤ 10000
  pub origin : IsOriginWithin p.origin
  pub start : IsSetpointWithin p.start
  pub setpoint : IsSetpointWithin p.setpoint
  pub groups_low : 1 ≤ p.groups
  pub groups_high : p.groups ≤ 8
  pub mass : AreMasses p.mass
  pub tol : AreMasses p.tol
  pub references : All AreRefLimits p.refs
  pub levers : All IsLever p.levers
  pub wind : All AreWindShares p.wind.push
  pub thrusters : All IsThrusterWithin p.thrusters.items
  pub some_thrusters : 1 ≤ length p.thrusters.items
  pub few_thrusters : length p.thrusters.items ≤ 12
  pub cases : All (IsCaseWithin (length p.thrusters.items)) p.cases.items
  pub grouped : AreGroups p.groups p.thrusters.items p.cases.items

-- the plant can be run: its gains are in range too
pub record IsSoundPlant (p : Plant) : Type 0 where
  pub within : IsPlantWithin p
  pub observer : IsObserverGains p.gains
  pub law : IsLawGains p.gains
  pub yaw : IsYawGains p.yaw
