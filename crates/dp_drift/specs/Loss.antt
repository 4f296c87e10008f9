-- The drift where one more group is lost.
use Rattle.std.specs.Prelude.{ℕ, ◌+◌, ◌^◌, Bool, not, ◌&&◌, nat_lt, List, filter, Option, ℤ}
use Rattle.std.specs.List.{range_with_len}
use Rattle.std.specs.Option.{option_map}
use Rattle.dp_plant.specs.declared.plant.Plant.{Plant}
use Rattle.dp_plant.specs.{case_of, is_lost}
use Rattle.dp_drift.specs.declared.drift.Drift.{Drift}
use Rattle.dp_drift.specs.Drift.{drift_in}

-- the drift under the box of the case in which a group is lost beside those of a mask; none where
-- the plant has no such case
unfoldable pub drift_without : Plant → ℕ → ℕ → List ℤ → ℤ → ℕ → Option Drift
drift_without p lost group mean limit cycles =
    option_map (λ c. drift_in p.gains.damp limit mean c.bounds cycles) (case_of p (lost + 2 ^ group))

-- the groups of the plant that are not in a mask, in rising order
abbrev pub ready_groups : Plant → ℕ → List ℕ
ready_groups p lost = filter (λ group. not (is_lost lost group)) (range_with_len 0 p.groups)
