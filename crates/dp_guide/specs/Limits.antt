-- The keys of a guide in the plant file.
use Rattle.std.specs.Prelude.{List, [], ◌∷◌, ℤ, replicate, Option, Result, Ok, codes}
use Rattle.toml.specs.Data.{Data}
use Rattle.dp_plant.specs.Keys.{◌>>=◌, Fault, between, plain, wholes_at}
use Rattle.dp_guide.specs.declared.motion.GuideLimits.{GuideLimits}

-- from 1 to 2^31
abbrev pub limit_ranges : List (ℤ × ℤ)
limit_ranges = between 1 2147483648 ∷ between 1 2147483648 ∷ between 1 2147483648 ∷ []

-- [guide]: nanometres and nanodegrees per cycle, and their change in a cycle
unfoldable pub limits_at : Option Data → Result GuideLimits Fault
limits_at document = do
  let guide = plain document (codes "guide")
  rate ← wholes_at guide (codes "rate") limit_ranges
  accel ← wholes_at guide (codes "accel") limit_ranges
  Ok (record { rate = rate; accel = accel })
