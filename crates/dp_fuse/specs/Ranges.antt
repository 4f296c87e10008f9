-- The ranges of what is fused.
use Rattle.std.specs.Prelude.{ℕ, ◌≤◌, ◌<◌, ◌^◌, ℤ, pos, ◌≤ℤ◌, ◌<ℤ◌, unsigned_abs}
use Rattle.dp_plant.specs.declared.frames.Gust.{Gust}
use Rattle.dp_plant.specs.declared.place.Place.{Place}
use Rattle.dp_plant.specs.declared.references.Verdict.{Verdict}
use Rattle.dp_plant.specs.declared.references.Verdict.TheVariants.{Silent, Stale, Frozen, Jumped, Noisy, Usable}
use Rattle.dp_plant.specs.Ranges.{IsMeasuredPlace, IsVectorWithin}
use Rattle.dp_fuse.specs.declared.places.WeightedPlace.{WeightedPlace}
use Rattle.dp_fuse.specs.declared.weighted.Weighted.{Weighted}

-- a weight from 1 to 2^20, and a number within 2^44 of zero
pub record IsWeighted (w : Weighted) : Type 0 where
  pub low : pos 1 ≤ℤ w.weight
  pub high : w.weight ≤ℤ pos (2 ^ 20)
  pub value : unsigned_abs w.value ≤ 2 ^ 44

-- a weight from 1 to 2^20, and a place within 2^44 of zero
pub record IsWeightedPlace (p : WeightedPlace) : Type 0 where
  pub low : pos 1 ≤ℤ p.weight
  pub high : p.weight ≤ℤ pos (2 ^ 20)
  pub place : IsMeasuredPlace p.at

-- a place within 2^43 of zero, and a weight from 1 to 2^20
pub record IsUsable (at : Place) (weight : ℕ) : Type 0 where
  pub place : IsVectorWithin (2 ^ 43) at
  pub low : 1 ≤ weight
  pub high : weight ≤ 2 ^ 20

-- a verdict, if it is usable, has such a place and weight
abbrev pub IsVerdictWithin : Verdict → Type 0
IsVerdictWithin (Usable at weight) = IsUsable at weight
IsVerdictWithin Silent = Unit {0}
IsVerdictWithin (Stale age) = Unit {0}
IsVerdictWithin Frozen = Unit {0}
IsVerdictWithin Jumped = Unit {0}
IsVerdictWithin (Noisy variance) = Unit {0}

-- an angle below one turn, and a speed below 100 m/s
abbrev pub IsGust : Gust → Type 0
IsGust g = (g.angle < 36000) × (g.speed < 100000)

-- a speed from 0, below 100 m/s
pub record IsSpeed (x : ℤ) : Type 0 where
  pub low : pos 0 ≤ℤ x
  pub high : x <ℤ pos 100000
