-- Two records that differ in one position reference, and how far apart the forces of their
-- reference runs are.
use Rattle.std.specs.Prelude.{◌≡◌, ◌≢◌, ℕ, zero, suc, List, [], take, length, slice_get, slice_index_or, Option, Some, None, ℤ, pos, ◌≤ℤ◌}
use Rattle.dp_plant.specs.Cases.{case_of}
use Rattle.dp_plant.specs.declared.cert.Cert.{Cert}
use Rattle.dp_plant.specs.declared.frames.Frame.{Frame}
use Rattle.dp_plant.specs.declared.plant.Plant.{Plant}
use Rattle.dp_plant.specs.declared.thrusters.RawCase.{RawCase}
use Rattle.dp_reftest.specs.Window.{slot_of}
use Rattle.dp_fuse.specs.declared.places.WeightedPlace.{WeightedPlace}
use Rattle.dp_fuse.specs.Places.{origin_of}
use Rattle.dp_cert.specs.TwinRuns.{AreForcesWithin, AreWithin}
use Rattle.dp_machine.specs.declared.state.State.{State}
use Rattle.dp_machine.specs.Step.{kept_at, pair_in, sensed_of, verdicts_of}
use Rattle.dp_machine.specs.Run.{Setpoints}
use Rattle.dp_machine.specs.Reference.{force_of, reference_state}

-- ---- the two records
-- two frames that bring the same on every wire but that of position reference r
pub record IsReplacedIn (r : ℕ) (f f' : Frame) : Type 0 where
  pub others : (i : ℕ) → i ≢ r → slot_of f.pos i ≡ slot_of f'.pos i
  pub gyro : f.gyro ≡ f'.gyro
  pub wind : f.wind ≡ f'.wind
  pub group : f.group ≡ f'.group

-- where reference i says that the vessel's origin is, if it is usable, in the cycle that a state
-- comes to
abbrev pub origin_in : Plant → State → Frame → ℕ → Option WeightedPlace
origin_in p s f i = origin_of (pair_in s (sensed_of s f)) p.levers (verdicts_of p s f) i

-- references i and j are usable in that cycle, and by them the origin's north parts differ by at
-- most a spread, and its east parts too
pub record AreUsableWithin (p : Plant) (spread : ℤ) (s : State) (f : Frame) (i j : ℕ) : Type 0 where
  pub one : WeightedPlace
  pub other : WeightedPlace
  pub one_usable : origin_in p s f i ≡ Some one
  pub other_usable : origin_in p s f j ≡ Some other
  pub near : AreWithin spread one.at other.at

-- the two references beside r are
abbrev pub AreOthersWithin : Plant → ℕ → ℤ → State → Frame → Type 0
AreOthersWithin p zero spread s f = AreUsableWithin p spread s f 1 2
AreOthersWithin p (suc zero) spread s f = AreUsableWithin p spread s f 0 2
AreOthersWithin p (suc (suc r)) spread s f = AreUsableWithin p spread s f 0 1

pub record IsReplacedCycle (p : Plant) (r : ℕ) (spread : ℤ) (s : State) (f f' : Frame) : Type 0 where
  pub frames : IsReplacedIn r f f'
  pub others : AreOthersWithin p r spread s f

-- two records of one length that differ in reference r alone; in every cycle of the first one's
-- reference run the other two references are usable and within a spread
pub record IsReplaced (p : Plant) (sets : Setpoints) (r : ℕ) (spread : ℤ)
    (fs fs' : List Frame) : Type 0 where
  pub lengths : length fs ≡ length fs'
  pub cycles : (n : ℕ) (f f' : Frame) → slice_get fs n ≡ Some f → slice_get fs' n ≡ Some f'
      → IsReplacedCycle p r spread (reference_state p sets (take n fs)) f f'

-- ---- what the reference runs share
-- all of a state but the plane, the demands, and the samples of reference r
pub record AreSharedBut (r : ℕ) (s s' : State) : Type 0 where
  pub count : s.count ≡ s'.count
  pub yaw : s.yaw ≡ s'.yaw
  pub heading : s.heading ≡ s'.heading
  pub wind : s.wind ≡ s'.wind
  pub lost : s.lost ≡ s'.lost
  pub samples : (i : ℕ) → i ≢ r → kept_at s.samples i ≡ kept_at s'.samples i

-- ---- and how far apart their forces are
-- the case of cycle n: that of the groups that are lost after its frame
abbrev pub case_in : Plant → Setpoints → List Frame → ℕ → Option RawCase
case_in p sets fs n = case_of p (reference_state p sets (take (suc n) fs)).lost

-- two forces of thruster k: 2^20 times their difference is at most C spread + R, by the thruster's
-- row of shares in the case; without a case both are zero
abbrev pub AreBounded : Cert → ℤ → Option RawCase → ℕ → ℤ → ℤ → Type 0
AreBounded c spread None k force force' = (force ≡ pos 0) × (force' ≡ pos 0)
AreBounded c spread (Some case) k force force' =
    AreForcesWithin c spread (slice_index_or case.b.items k []) force force'

-- neither run has this cycle and thruster, or both have, and their forces are such
abbrev pub AreBothBounded : Cert → ℤ → Option RawCase → ℕ → Option ℤ → Option ℤ → Type 0
AreBothBounded c spread case k None None = Unit {0}
AreBothBounded c spread case k None (Some force') = ⊥
AreBothBounded c spread case k (Some force) None = ⊥
AreBothBounded c spread case k (Some force) (Some force') = AreBounded c spread case k force force'

-- ---- the laws
-- after any number of cycles the runs share all but what reference r tells; so they have one case
abbrev pub RunsShareAllButTheReplaced : Plant → Type 0
RunsShareAllButTheReplaced p =
    (sets : Setpoints) (r : ℕ) (spread : ℤ) → pos 0 ≤ℤ spread → (fs fs' : List Frame)
    → IsReplaced p sets r spread fs fs' → (n : ℕ)
    → AreSharedBut r (reference_state p sets (take n fs)) (reference_state p sets (take n fs'))

-- whatever the replaced reference tells in either record, the forces of every cycle and thruster
-- are within the bound of the cycle's case
abbrev pub ReplacedReferenceIsBounded : Plant → Type 0
ReplacedReferenceIsBounded p =
    (sets : Setpoints) (r : ℕ) (spread : ℤ) → pos 0 ≤ℤ spread → (fs fs' : List Frame)
    → IsReplaced p sets r spread fs fs' → (n k : ℕ)
    → AreBothBounded p.cert spread (case_in p sets fs n) k
    (force_of p sets fs n k) (force_of p sets fs' n k)
