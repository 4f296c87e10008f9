-- What the wind pushes on surge, sway and yaw.
use Rattle.std.specs.Prelude.{◌≤◌, ◌/◌, ◌^◌, List, [], ◌∷◌, slice_index_or, Option, Some, None, ℤ, pos, neg_ℤ, ◌*ℤ◌, unsigned_abs}
use Rattle.dp_fixed.specs.Division.{floor_of}
use Rattle.dp_fixed.specs.Order.{clamp_of}
use Rattle.dp_plant.specs.declared.frames.Gust.{Gust}
use Rattle.dp_plant.specs.declared.wind.WindTable.{WindTable}
use Rattle.dp_plant.specs.Vectors.{entry, three_zeros}

-- by a number of the table, over 2^20, and the speed in mm/s
abbrev pub pushed_by : ℤ → ℤ → ℤ
pushed_by share speed =
    clamp_of (floor_of (share *ℤ (speed *ℤ speed)) (pos (2 ^ 20))) (neg_ℤ (pos (2 ^ 31)))
    (pos (2 ^ 31))

abbrev pub row_push : List ℤ → ℤ → List ℤ
row_push row speed =
    pushed_by (entry row 0) speed ∷ pushed_by (entry row 1) speed ∷ pushed_by (entry row 2) speed
    ∷ []

-- a row of the table for each 30 degrees; no push where no wind is known
abbrev pub wind_push : WindTable → Option Gust → List ℤ
wind_push table None = three_zeros
wind_push table (Some g) = row_push (slice_index_or table.push (g.angle / 3000) []) (pos g.speed)

-- the wind's push is within 2^31 of zero on each axis
pub record IsWindPush (push : List ℤ) : Type 0 where
  pub surge : unsigned_abs (entry push 0) ≤ 2 ^ 31
  pub sway : unsigned_abs (entry push 1) ≤ 2 ^ 31
  pub yaw : unsigned_abs (entry push 2) ≤ 2 ^ 31
