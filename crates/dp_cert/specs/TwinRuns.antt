-- Twin runs: two runs of the plane that share all but the measured places, and how far apart they
-- stay.
use Rattle.std.specs.Prelude.{◌<◌, ◌^◌, ℕ, ℤ, pos, ◌+ℤ◌, ◌-ℤ◌, ◌*ℤ◌, ◌≤ℤ◌, List, [], ◌∷◌, Option, Some, None, All, unsigned_abs}
use Rattle.dp_fixed.specs.Scale.{full_scale}
use Rattle.dp_fixed.specs.Division.{floor_of, ceil_of}
use Rattle.dp_plant.specs.declared.cert.Cert.{Cert}
use Rattle.dp_plant.specs.declared.gains.Gains.{Gains}
use Rattle.dp_plant.specs.declared.limits.Box3.{Box3}
use Rattle.dp_plant.specs.declared.limits.Setpoint.{Setpoint}
use Rattle.dp_plant.specs.declared.place.Place.{Place}
use Rattle.dp_plant.specs.declared.plane.PlaneState.{PlaneState}
use Rattle.dp_plant.specs.Ranges.{IsPair}
use Rattle.dp_plant.specs.Step.{PlaneStep, plane_step}
use Rattle.dp_plant.specs.Vectors.{entry}
use Rattle.dp_cert.specs.Bound.{bound}
use Rattle.dp_cert.specs.States.{IsStateOf, gap_form}

-- two places whose parts differ by at most s
pub record AreWithin (s : ℤ) (y y' : Place) : Type 0 where
  pub north : pos (unsigned_abs (y.north -ℤ y'.north)) ≤ℤ s
  pub east : pos (unsigned_abs (y.east -ℤ y'.east)) ≤ℤ s

-- neither run measures a place, or both do and the two are within s
abbrev pub AreMeasuredWithin : ℤ → Option Place → Option Place → Type 0
AreMeasuredWithin s None None = Unit {0}
AreMeasuredWithin s None (Some y') = ⊥
AreMeasuredWithin s (Some y) None = ⊥
AreMeasuredWithin s (Some y) (Some y') = AreWithin s y y'

-- what twin runs share in a cycle, and the place that each measures
pub record TwinCycle : Type 0 where
  pub box : Box3
  pub setpoint : Setpoint
  pub pair : ℤ × ℤ
  pub wind : List ℤ
  pub first : Option Place
  pub second : Option Place

pub record IsTwinCycle (s : ℤ) (t : TwinCycle) : Type 0 where
  pub pair : IsPair t.pair
  pub places : AreMeasuredWithin s t.first t.second

abbrev pub step_in : Gains → TwinCycle → PlaneState → Option Place → PlaneStep
step_in g t x y = plane_step g t.box t.setpoint t.pair t.wind x y

-- the states of the two runs after a list of cycles
abbrev pub first_after : Gains → PlaneState → List TwinCycle → PlaneState
first_after g x [] = x
first_after g x (t ∷ ts) = first_after g (step_in g t x t.first).next ts

abbrev pub second_after : Gains → PlaneState → List TwinCycle → PlaneState
second_after g x [] = x
second_after g x (t ∷ ts) = second_after g (step_in g t x t.second).next ts

-- the root of V of the difference that every cycle keeps: rho of it and what a cycle adds is no more
abbrev pub kept_gap : Cert → ℤ → ℤ
kept_gap c s = ceil_of (c.b *ℤ s +ℤ full_scale *ℤ c.r) (full_scale -ℤ c.rho)

pub record AreClose (c : Cert) (s : ℤ) (x x' : PlaneState) : Type 0 where
  pub first : IsStateOf c.parts x
  pub second : IsStateOf c.parts x'
  pub kept : gap_form c.parts x x' ≤ℤ (kept_gap c s *ℤ kept_gap c s)

-- a thruster's force in newtons, by its row of shares, the demands on surge and sway, and that on
-- yaw
abbrev pub force_of : List ℤ → List ℤ → ℤ → ℤ
force_of row demand yaw =
    floor_of
    ((entry row 0 *ℤ entry demand 0 +ℤ entry row 1 *ℤ entry demand 1) +ℤ entry row 2 *ℤ yaw)
    (pos (2 ^ 20))

-- 2^20 times the difference of two forces is at most the row's bound at s
abbrev pub AreForcesWithin : Cert → ℤ → List ℤ → ℤ → ℤ → Type 0
AreForcesWithin c s row f f' =
    (pos (2 ^ 20) *ℤ pos (unsigned_abs (f -ℤ f'))) ≤ℤ ((bound c row).0 *ℤ s +ℤ (bound c row).1)

-- ---- the laws
-- in a cycle with two places the root of V is multiplied by rho, and grows by b s and r besides
abbrev pub CycleContracts : Gains → Cert → Type 0
CycleContracts g c =
    (t : TwinCycle) (x x' : PlaneState) (y y' : Place) (n s : ℤ) → pos 0 ≤ℤ n → pos 0 ≤ℤ s
    → IsPair t.pair → AreWithin s y y' → IsStateOf c.parts x → IsStateOf c.parts x'
    → gap_form c.parts x x' ≤ℤ (n *ℤ n) →
    let most = (c.rho *ℤ n +ℤ c.b *ℤ s) +ℤ full_scale *ℤ c.r in
    (full_scale *ℤ full_scale
    *ℤ gap_form c.parts (step_in g t x (Some y)).next (step_in g t x' (Some y')).next)
    ≤ℤ (most *ℤ most)

-- the demands on surge and sway differ by at most g n and one besides, with a place or without
abbrev pub DemandsStayClose : Gains → Cert → Type 0
DemandsStayClose g c =
    (t : TwinCycle) (x x' : PlaneState) (y y' : Option Place) (n : ℤ) → pos 0 ≤ℤ n → IsPair t.pair
    → IsStateOf c.parts x → IsStateOf c.parts x' → gap_form c.parts x x' ≤ℤ (n *ℤ n)
    → (axis : ℕ) → axis < 2 →
    let demand = entry (step_in g t x y).demand axis in
    let demand' = entry (step_in g t x' y').demand axis in
    (full_scale *ℤ pos (unsigned_abs (demand -ℤ demand')))
    ≤ℤ (entry c.g axis *ℤ n +ℤ full_scale)

-- every state of the plant is close to itself
abbrev pub SameIsClose : Cert → Type 0
SameIsClose c = (s : ℤ) → pos 0 ≤ℤ s → (x : PlaneState) → IsStateOf c.parts x → AreClose c s x x

-- close runs stay close, for any number of cycles
abbrev pub RunsStayClose : Gains → Cert → Type 0
RunsStayClose g c =
    (s : ℤ) → pos 0 ≤ℤ s → (ts : List TwinCycle) → All (IsTwinCycle s) ts → (x x' : PlaneState)
    → AreClose c s x x' → AreClose c s (first_after g x ts) (second_after g x' ts)

-- and the forces in a cycle of close runs are within the bound
abbrev pub ForcesStayClose : Gains → Cert → Type 0
ForcesStayClose g c =
    (s : ℤ) → pos 0 ≤ℤ s → (t : TwinCycle) → IsPair t.pair → (x x' : PlaneState)
    → AreClose c s x x' → (y y' : Option Place) (row : List ℤ) (yaw : ℤ)
    → AreForcesWithin c s row (force_of row (step_in g t x y).demand yaw)
    (force_of row (step_in g t x' y').demand yaw)

-- so they are within it in every cycle of twin runs that begin in one state
abbrev pub TwinForcesStayClose : Gains → Cert → Type 0
TwinForcesStayClose g c =
    (s : ℤ) → pos 0 ≤ℤ s → (x : PlaneState) → IsStateOf c.parts x
    → (before : List TwinCycle) (t : TwinCycle) → All (IsTwinCycle s) before → IsTwinCycle s t
    → (row : List ℤ) (yaw : ℤ)
    → AreForcesWithin c s row
    (force_of row (step_in g t (first_after g x before) t.first).demand yaw)
    (force_of row (step_in g t (second_after g x before) t.second).demand yaw)
