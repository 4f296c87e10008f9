-- The ranges that a plant file allows, over the parts of a plant: the facts of the type Plant.
use Rattle.std.specs.Prelude.{◌≡◌, ◌≢◌, ◌<◌, ◌≤◌, ◌^◌, ◌==◌, Bool, true, length, List, replicate, All, AllPairs, ℕ, ℤ, pos, ◌≤ℤ◌, unsigned_abs}
use Rattle.std.specs.List.{list_any}
use Rattle.std.proofs.Props.{props}
use Rattle.dp_plant.specs.declared.cert.Parts.{Parts}
use Rattle.dp_plant.specs.declared.cert.Parts.TheVariants.{Three, Five}
use Rattle.dp_plant.specs.declared.gains.Gains.{Gains}
use Rattle.dp_plant.specs.declared.limits.Setpoint.{Setpoint}
use Rattle.dp_plant.specs.declared.references.RefLimits.{RefLimits}
use Rattle.dp_plant.specs.declared.thrusters.RawCase.{RawCase}
use Rattle.dp_plant.specs.declared.thrusters.Thruster.{Thruster}
use Rattle.dp_plant.specs.declared.wind.WindTable.{WindTable}
use Rattle.dp_plant.specs.Ranges.{IsPlaneBox, IsPlaneSetpoint}
use Rattle.dp_plant.specs.Vectors.{entry}
use Rattle.dp_plant.specs.YawRanges.{IsYawBox, IsYawSetpoint}

-- a latitude within 89 degrees and a longitude within 180, in 10^-7 minutes
pub record IsOriginWithin (origin : List ℤ) : Type 0 where
  pub latitude : unsigned_abs (entry origin 0) ≤ 53400000000
  pub longitude : unsigned_abs (entry origin 1) ≤ 108000000000

pub record IsSetpointWithin (s : Setpoint) : Type 0 where
  pub place : IsPlaneSetpoint s
  pub heading : IsYawSetpoint s

-- a mass, or the error that a case may make in it, is from 0 to 2^40
pub record IsMass (mass : ℤ) : Type 0 where
  pub low : pos 0 ≤ℤ mass
  pub high : unsigned_abs mass ≤ 2 ^ 40

abbrev pub AreMasses : List ℤ → Type 0
AreMasses masses = (axis : ℕ) → IsMass (entry masses axis)

-- a window of 4 to 32 samples; steps to 1 km, a variance to 1 m², an age to 60 cycles
pub record AreRefLimits (r : RefLimits) : Type 0 where
  pub window_low : 4 ≤ r.window
  pub window_high : r.window ≤ 32
  pub jump_low : pos 0 ≤ℤ r.jump
  pub jump_high : r.jump ≤ℤ pos (10 ^ 12)
  pub noise_low : pos 0 ≤ℤ r.noise
  pub noise_high : r.noise ≤ℤ pos (10 ^ 12)
  pub age : r.age ≤ 60

-- a lever arm of at most 500 m, in mm
pub record IsLever (lever : ℤ × ℤ) : Type 0 where
  pub ahead : unsigned_abs lever.0 ≤ 500000
  pub starboard : unsigned_abs lever.1 ≤ 500000

-- a row of the wind table: each share within 2^24 of zero
abbrev pub AreWindShares : List ℤ → Type 0
AreWindShares row = (axis : ℕ) → unsigned_abs (entry row axis) ≤ 2 ^ 24

-- a lever arm of at most 500 m, and limits that hold zero and are within 2^31 of it
pub record IsThrusterWithin (t : Thruster) : Type 0 where
  pub group : t.group < 8
  pub arm : (axis : ℕ) → unsigned_abs (entry t.at axis) ≤ 500000
  pub azimuth : t.azimuth < 36000
  pub below : t.min ≤ℤ pos 0
  pub above : pos 0 ≤ℤ t.max
  pub low : unsigned_abs t.min ≤ 2 ^ 31
  pub high : unsigned_abs t.max ≤ 2 ^ 31

-- a row of three shares within 2^31 of zero
pub record IsShareRow (row : List ℤ) : Type 0 where
  pub three : length row ≡ 3
  pub shares : (axis : ℕ) → unsigned_abs (entry row axis) ≤ 2 ^ 31

-- a box on each axis, and for each thruster a row of three shares within 2^31 of zero
pub record IsCaseWithin (thrusters : ℕ) (c : RawCase) : Type 0 where
  pub plane : IsPlaneBox c.bounds
  pub yaw : IsYawBox c.bounds
  pub rows : length c.b.items ≡ thrusters
  pub shares : All IsShareRow c.b.items

-- there is a case for this mask of lost groups
abbrev pub has_case : List RawCase → ℕ → Bool
has_case cases mask = list_any (λ c. c.lost == mask) cases

-- each thruster is of one of the groups, and so are the lost ones of each case; no two cases are of
-- the same lost groups, and there is one where none is lost, and where any single one is
pub record AreGroups (groups : ℕ) (thrusters : List Thruster) (cases : List RawCase) : Type 0 where
  pub members : All (λ t. t.group < groups) thrusters
  pub masks : All (λ c. c.lost < 2 ^ groups) cases
  pub distinct : AllPairs (λ c d. c.lost ≢ d.lost) cases
  pub none_lost : has_case cases 0 ≡ true
  pub one_lost : (group : ℕ) → group < groups → has_case cases (2 ^ group) ≡ true

-- the states of a certificate are three in version 1, and with a wave filter five in version 2
abbrev pub version_of : Parts → ℕ
version_of (Three lists) = 1
version_of (Five lists) = 2

-- the gains of a plant that has no wave filter
pub record HasNoWaves (gains : Gains) : Type 0 where
  pub wave : gains.wave ≡ replicate 4 (pos 0)
  pub k1 : gains.k1 ≡ replicate 2 (pos 0)

pub record IsOfVersion (version : ℕ) (gains : Gains) (parts : Parts) : Type 0 where
  pub states : version ≡ version_of parts
  pub no_waves : version ≡ 1 → HasNoWaves gains

-- each number of a plant's parts is in the range that a plant file allows, but for those of the
-- gains, which are judged with the certificate
pub record ArePartsWithin (version cycle_ms : ℕ) (origin : List ℤ) (start setpoint : Setpoint)
    (groups : ℕ) (mass tol : List ℤ) (refs : List RefLimits) (levers : List (ℤ × ℤ))
    (wind : WindTable) (thrusters : List Thruster) (cases : List RawCase) (gains : Gains)
    (parts : Parts) : Type 0 where
  pub of_version : IsOfVersion version gains parts
  pub cycle_low : 100 ≤ cycle_ms
  pub cycle_high : cycle_ms ≤ 10000
  pub origin_within : IsOriginWithin origin
  pub start_within : IsSetpointWithin start
  pub setpoint_within : IsSetpointWithin setpoint
  pub groups_low : 1 ≤ groups
  pub groups_high : groups ≤ 8
  pub masses : AreMasses mass
  pub tolerances : AreMasses tol
  pub references : All AreRefLimits refs
  pub arms : All IsLever levers
  pub pushes : All AreWindShares wind.push
  pub each_thruster : All IsThrusterWithin thrusters
  pub some_thrusters : 1 ≤ length thrusters
  pub few_thrusters : length thrusters ≤ 12
  pub each_case : All (IsCaseWithin (length thrusters)) cases
  pub grouped : AreGroups groups thrusters cases

-- the same as one word: it is the fact that the type Plant keeps
unfoldable pub IsWithinFile : ℕ → ℕ → List ℤ → Setpoint → Setpoint → ℕ → List ℤ → List ℤ
    → List RefLimits → List (ℤ × ℤ) → WindTable → List Thruster → List RawCase → Gains → Parts
    → Type 0
IsWithinFile = ArePartsWithin

-- it has one proof at most
pub IsWithinFile-prop : (version cycle_ms : ℕ) (origin : List ℤ) (start setpoint : Setpoint)
    (groups : ℕ) (mass tol : List ℤ) (refs : List RefLimits) (levers : List (ℤ × ℤ))
    (wind : WindTable) (thrusters : List Thruster) (cases : List RawCase) (gains : Gains)
    (parts : Parts) → IsProp (IsWithinFile version cycle_ms origin start setpoint groups mass tol refs levers wind thrusters cases gains parts)
unfolding IsWithinFile
IsWithinFile-prop version cycle_ms origin start setpoint groups mass tol refs levers wind thrusters cases gains parts = Prim.hlevel props

pub ruleset within_file = IsWithinFile-prop
