-- What every plant gives those who run it.
use Rattle.std.proofs.Common.{◌<◌, ◌≤◌, ℕ, All, get_or, length, arith}
use Rattle.dp_cert.specs.Bound.{IsShareRow}
use Rattle.dp_plant.specs.declared.plant.Plant.{Plant}
use Rattle.dp_plant.specs.declared.thrusters.RawCase.{RawCase}
use Rattle.dp_plant.proofs.PlantFacts.{plant_within}
use Rattle.dp_frame.specs.LocalFrame.{IsOrigin, origin_of}
use Rattle.dp_frame.specs.Represents.{settings_of}

pub some_cycle : (p : Plant) → 0 < (settings_of p).cycle_ms
some_cycle p = let w = plant_within p in omega (arith, w.cycle_low)

pub slow_cycle : (p : Plant) → 100 ≤ (settings_of p).cycle_ms
slow_cycle p = (plant_within p).cycle_low

pub few_groups : (p : Plant) → p.groups ≤ 8
few_groups p = (plant_within p).groups_high

pub origin_within : (p : Plant) → IsOrigin (origin_of p)
origin_within p = let w = plant_within p in record { lat = w.origin.latitude; lon = w.origin.longitude }

-- the shares of each case are within the range of a certificate's bound
pub share_rows : (p : Plant) (n : ℕ) (d : RawCase) → n < length p.cases.items → All IsShareRow (get_or p.cases.items n d).b.items
share_rows p n d lt = let w = plant_within p in λ k row few. ((w.cases n d lt).shares k row few).shares
