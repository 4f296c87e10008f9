-- Open-loop drift under the mean demand, where the thrusters that are left give less than it.
use Rattle.std.specs.Prelude.{ℕ, zero, suc, Bool, ◌&&◌, ◌==◌, int_lt, if◌then◌else◌, List, [], ◌∷◌, find, Option, Some, None, ℤ, pos, ◌+ℤ◌, ◌-ℤ◌, ◌*ℤ◌, unsigned_abs}
use Rattle.std.specs.Int.{int_max}
use Rattle.std.specs.List.{range_with_len}
use Rattle.dp_fixed.specs.{clamp_of, floor_of, full_scale}
use Rattle.dp_plant.specs.declared.limits.Box3.{Box3}
use Rattle.dp_plant.specs.{entry}
use Rattle.dp_drift.specs.declared.drift.Drift.{Drift}
use Rattle.dp_drift.specs.declared.drift.Drift.TheVariants.{Held, Past, Within}

-- what a box leaves undone of a mean demand: what can be given, less what is wanted
abbrev pub lacking : ℤ → ℤ → ℤ → ℤ
lacking mean lo hi = clamp_of mean lo hi -ℤ mean

-- the velocity of the next cycle: what damping leaves of this one's, and what is lacking
abbrev pub velocity_next : ℤ → ℤ → ℤ → ℤ
velocity_next damp u v = floor_of ((full_scale -ℤ damp) *ℤ v +ℤ full_scale *ℤ u) full_scale

-- the velocity after n cycles, from rest
abbrev pub velocity_after : ℤ → ℤ → ℕ → ℤ
velocity_after damp u zero = pos 0
velocity_after damp u (suc n) = velocity_next damp u (velocity_after damp u n)

-- the way after n cycles
abbrev pub way_after : ℤ → ℤ → ℕ → ℤ
way_after damp u zero = pos 0
way_after damp u (suc n) = way_after damp u n +ℤ velocity_after damp u (suc n)

-- the greater of two axes' distances after n cycles
abbrev pub reach_after : ℤ → ℤ → ℤ → ℕ → ℤ
reach_after damp u w n =
    int_max (pos (unsigned_abs (way_after damp u n))) (pos (unsigned_abs (way_after damp w n)))

-- after n cycles one of two axes is past the limit
abbrev pub is_past : ℤ → ℤ → ℤ → ℤ → ℕ → Bool
is_past damp limit u w n = int_lt limit (reach_after damp u w n)

-- the first of the cycles 1 to n after which one is past the limit
abbrev pub first_past : ℤ → ℤ → ℤ → ℤ → ℕ → Option ℕ
first_past damp limit u w n = find (is_past damp limit u w) (range_with_len 1 n)

-- the first cycle past the limit; where there is none, two places
abbrev pub past_or_within : Option ℕ → List ℤ → Drift
past_or_within (Some cycle) at = Past cycle
past_or_within None at = Within at

-- nothing is lacking on either axis
abbrev pub is_held : ℤ → ℤ → Bool
is_held u w = unsigned_abs u == 0 && unsigned_abs w == 0

-- the drift in so many cycles, where u and w are what is lacking on the two axes
unfoldable pub drift_by : ℤ → ℤ → ℤ → ℤ → ℕ → Drift
drift_by damp limit u w cycles =
    if is_held u w then Held
    else past_or_within (first_past damp limit u w cycles)
    (way_after damp u cycles ∷ way_after damp w cycles ∷ [])

-- what a box leaves undone of a mean demand on an axis
abbrev pub lacking_on : List ℤ → Box3 → ℕ → ℤ
lacking_on mean box axis = lacking (entry mean axis) (entry box.lo axis) (entry box.hi axis)

-- the drift in so many cycles under a mean demand, where a box is what can be given
abbrev pub drift_in : ℤ → ℤ → List ℤ → Box3 → ℕ → Drift
drift_in damp limit mean box cycles =
    drift_by damp limit (lacking_on mean box 0) (lacking_on mean box 1) cycles
