-- What holds of every drift.
use Rattle.std.specs.Prelude.{◌≡◌, ◌≤◌, ◌<◌, ◌⊎◌, ℕ, suc, ℤ, pos, neg_ℤ, ◌≤ℤ◌, ◌<ℤ◌, unsigned_abs, List, [], ◌∷◌}
use Rattle.dp_fixed.specs.{full_scale}
use Rattle.dp_drift.specs.declared.drift.Drift.{Drift}
use Rattle.dp_drift.specs.declared.drift.Drift.TheVariants.{Held, Past, Within}
use Rattle.dp_drift.specs.Drift.{drift_by, lacking, reach_after, way_after}

-- n is the first cycle past the limit
pub record IsFirstPast (damp limit u w : ℤ) (n : ℕ) : Type 0 where
  pub past : limit <ℤ reach_after damp u w n
  pub first : (k : ℕ) → k < n → reach_after damp u w k ≤ℤ limit

-- no cycle up to n is past the limit
abbrev pub IsKept : ℤ → ℤ → ℤ → ℤ → ℕ → Type 0
IsKept damp limit u w n = (k : ℕ) → k ≤ n → reach_after damp u w k ≤ℤ limit

-- the way never falls from one cycle to the next
abbrev pub DriftNeverFalls : Type 0
DriftNeverFalls =
    (damp u : ℤ) (n : ℕ) → pos 0 ≤ℤ damp → damp ≤ℤ full_scale
    → unsigned_abs (way_after damp u n) ≤ unsigned_abs (way_after damp u (suc n))

-- where one box contains another, the way under the larger is at most that under the smaller
abbrev pub LargerBoxDriftsLess : Type 0
LargerBoxDriftsLess =
    (damp mean lo hi wide_lo wide_hi : ℤ) (n : ℕ) → pos 0 ≤ℤ damp → damp ≤ℤ full_scale
    → lo ≤ℤ hi → wide_lo ≤ℤ lo → hi ≤ℤ wide_hi
    → unsigned_abs (way_after damp (lacking mean wide_lo wide_hi) n)
    ≤ unsigned_abs (way_after damp (lacking mean lo hi) n)

-- so it is past the limit no earlier
abbrev pub LargerBoxIsPastLater : Type 0
LargerBoxIsPastLater =
    (damp limit surge sway lo0 hi0 lo1 hi1 wide_lo0 wide_hi0 wide_lo1 wide_hi1 : ℤ) (n m : ℕ)
    → pos 0 ≤ℤ damp → damp ≤ℤ full_scale
    → lo0 ≤ℤ hi0 → wide_lo0 ≤ℤ lo0 → hi0 ≤ℤ wide_hi0
    → lo1 ≤ℤ hi1 → wide_lo1 ≤ℤ lo1 → hi1 ≤ℤ wide_hi1
    → IsFirstPast damp limit (lacking surge lo0 hi0) (lacking sway lo1 hi1) n
    → IsFirstPast damp limit (lacking surge wide_lo0 wide_hi0) (lacking sway wide_lo1 wide_hi1) m
    → n ≤ m

-- the drift is past in a cycle exactly where that is the first past the limit
abbrev pub PastIsFirst : Type 0
PastIsFirst =
    (damp limit u w : ℤ) (cycles n : ℕ) → pos 0 ≤ℤ limit → drift_by damp limit u w cycles ≡ Past n
    → (n ≤ cycles) × IsFirstPast damp limit u w n

-- a mean demand of 46 mm/s² against 45, by hand: the ways after one, two and three cycles
pub record IsWorkedRow : Type 0 where
  pub lack : lacking (pos 46000000) (neg_ℤ (pos 45000000)) (pos 45000000)
      ≡ neg_ℤ (pos 1000000)
  pub first : way_after (pos 1342177) (neg_ℤ (pos 1000000)) 1 ≡ neg_ℤ (pos 1000000)
  pub second : way_after (pos 1342177) (neg_ℤ (pos 1000000)) 2 ≡ neg_ℤ (pos 2998751)
  pub third : way_after (pos 1342177) (neg_ℤ (pos 1000000)) 3 ≡ neg_ℤ (pos 5995004)
  pub no_lack : lacking (pos 45000000) (neg_ℤ (pos 45000000)) (pos 45000000) ≡ pos 0
