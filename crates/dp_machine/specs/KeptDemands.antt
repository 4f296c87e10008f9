-- The last demands in a ring, with their sums beside it.
use Rattle.std.specs.Prelude.{◌≡◌, ◌≤◌, ℕ, List, All, length, map, ℤ, pos, Option, Some, None}
use Rattle.circular_buffer.specs.Buffer.{Buffer}
use Rattle.dp_plant.specs.Vectors.{entry}
use Rattle.dp_alloc.specs.Ranges.{IsDemandWithin}
use Rattle.dp_consequence.specs.Demands.{sum_of}
use Rattle.dp_machine.specs.declared.demands.DemandSums.{DemandSums}
use Rattle.dp_machine.specs.declared.demands.Demands.TheInside.{Inside}

-- the sum of some demands on one axis
abbrev pub total_on : List (List ℤ) → ℕ → ℤ
total_on demands axis = sum_of (map (λ d. entry d axis) demands)

-- their sums on surge, sway and yaw
abbrev pub totals_of : List (List ℤ) → DemandSums
totals_of demands = record {
  surge = total_on demands 0;
  sway = total_on demands 1;
  yaw = total_on demands 2;
}

-- what a demand that fell out, if one did, had on an axis
abbrev pub part_of : Option (List ℤ) → ℕ → ℤ
part_of None axis = pos 0
part_of (Some d) axis = entry d axis

-- the sums are those of the ring's demands, of which there are 60 at most, each in its range
pub record AreSummed (ring : Buffer (List ℤ)) (sums : DemandSums) : Type 0 where
  pub kept : sums ≡ totals_of ring.items
  pub within : All IsDemandWithin ring.items
  pub few : length ring.items ≤ ring.capacity
  pub capacity : ring.capacity ≡ 60

-- a contract sees the ring alone
abbrev pub ring_of : Inside → Buffer (List ℤ)
ring_of d = d.ring

abbrev pub AreKept : Inside → Type 0
AreKept d = AreSummed d.ring d.sums
