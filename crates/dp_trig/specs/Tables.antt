-- The tables from which a pair is answered.
use Rattle.std.specs.Prelude.{◌≡◌, ℕ, ◌<◌, List, Some, slice_get}
use Rattle.dp_trig.specs.Rotation.{Pair}
use Rattle.dp_trig.specs.SinePair.{degrees, hundredths}

-- the rotations by 0 to 45 degrees, and by 0 to 99 hundredths
pub record AreRotations (whole rest : List Pair) : Type 0 where
  pub whole_degrees : (k : ℕ) → k < 46 → slice_get whole k ≡ Some (degrees k)
  pub rest_of_degree : (k : ℕ) → k < 100 → slice_get rest k ≡ Some (hundredths k)
