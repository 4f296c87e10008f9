-- The ranges of demands and forces.
use Rattle.std.specs.Prelude.{◌≤◌, ◌^◌, ℤ, ◌≤ℤ◌, List, unsigned_abs}
use Rattle.dp_plant.specs.Vectors.{entry}

-- a demand on surge and sway within 2^31 of zero, and on yaw within 2^38
pub record IsDemandWithin (demand : List ℤ) : Type 0 where
  pub surge : unsigned_abs (entry demand 0) ≤ 2 ^ 31
  pub sway : unsigned_abs (entry demand 1) ≤ 2 ^ 31
  pub yaw : unsigned_abs (entry demand 2) ≤ 2 ^ 38

-- a force between a least and a greatest one
pub record IsWithinLimits (limits : ℤ × ℤ) (f : ℤ) : Type 0 where
  pub low : limits.0 ≤ℤ f
  pub high : f ≤ℤ limits.1
