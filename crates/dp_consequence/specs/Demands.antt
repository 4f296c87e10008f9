-- The mean demand of late.
use Rattle.std.specs.Prelude.{ℕ, List, [], ◌∷◌, length, map, ℤ, pos, ◌+ℤ◌}
use Rattle.dp_fixed.specs.{floor_of}
use Rattle.dp_plant.specs.{entry}

abbrev pub sum_of : List ℤ → ℤ
sum_of [] = pos 0
sum_of (x ∷ xs) = x +ℤ sum_of xs

-- the mean of some demands on one axis, rounded down
abbrev pub mean_on : List (List ℤ) → ℕ → ℤ
mean_on demands axis = floor_of (sum_of (map (λ d. entry d axis) demands)) (pos (length demands))

-- the mean of some demands, at least one, on surge, sway and yaw
unfoldable pub mean_demand : List (List ℤ) → List ℤ
mean_demand demands = mean_on demands 0 ∷ mean_on demands 1 ∷ mean_on demands 2 ∷ []
