-- Which ready groups the vessel can't afford to lose.
use Rattle.std.specs.Prelude.{ℕ, ◌+◌, ◌^◌, Bool, false, not, ◌&&◌, int_le, List, filter, map, Option, Some, None, ℤ}
use Rattle.std.specs.List.{range_with_len}
use Rattle.dp_fixed.specs.{bits_of}
use Rattle.dp_plant.specs.declared.limits.Box3.{Box3}
use Rattle.dp_plant.specs.declared.plant.Plant.{Plant}
use Rattle.dp_plant.specs.declared.thrusters.RawCase.{RawCase}
use Rattle.dp_plant.specs.{case_of, entry, is_lost}

-- a number lies from one end of a range to the other
abbrev pub is_in_range : ℤ → ℤ → ℤ → Bool
is_in_range lo hi a = int_le lo a && int_le a hi

-- the demands on surge and sway are in their ranges of the box
abbrev pub is_in_plane : Box3 → List ℤ → Bool
is_in_plane box a =
    is_in_range (entry box.lo 0) (entry box.hi 0) (entry a 0)
    && is_in_range (entry box.lo 1) (entry box.hi 1) (entry a 1)

-- each demand is in its range of the box
abbrev pub is_in_box : Box3 → List ℤ → Bool
is_in_box box a = is_in_plane box a && is_in_range (entry box.lo 2) (entry box.hi 2) (entry a 2)

-- a demand can be met: there is a case, and its box holds the demand
abbrev pub is_met : Option RawCase → List ℤ → Bool
is_met None demand = false
is_met (Some c) demand = is_in_box c.bounds demand

-- a group is ready, and with it lost too the mean demand can't be met
abbrev pub is_unsurvived : Plant → ℕ → List ℤ → ℕ → Bool
is_unsurvived p lost mean group =
    not (is_lost lost group) && not (is_met (case_of p (lost + 2 ^ group)) mean)

-- the plant's groups
abbrev pub groups_of : Plant → List ℕ
groups_of p = range_with_len 0 p.groups

-- the ready groups whose loss would not be survived
unfoldable pub unsurvived_groups : Plant → ℕ → List ℤ → List ℕ
unsurvived_groups p lost mean = filter (is_unsurvived p lost mean) (groups_of p)

-- the number whose bit g is set for each such group g
unfoldable pub unsurvived_bits : Plant → ℕ → List ℤ → ℕ
unsurvived_bits p lost mean = bits_of (map (is_unsurvived p lost mean) (groups_of p))
