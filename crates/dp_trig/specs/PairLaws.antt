-- What holds of every heading's pair.
use Rattle.std.specs.Prelude.{◌≡◌, ℕ, ◌+◌, ◌<◌, neg_ℤ}
use Rattle.dp_trig.specs.Rotation.{IsShort, PartsWithin, unturned}
use Rattle.dp_trig.specs.SinePair.{pair_of, exchanged}

-- no heading's pair is longer than the scale
abbrev pub EveryPairIsShort : Type 0
EveryPairIsShort = (a : ℕ) → a < 36000 → IsShort (pair_of a)

-- so each part of it lies within the scale
abbrev pub EveryPairHasPartsWithin : Type 0
EveryPairHasPartsWithin = (a : ℕ) → a < 36000 → PartsWithin (pair_of a)

-- the cosine of 0 is the scale, and its sine is 0
abbrev pub NorthIsTheScale : Type 0
NorthIsTheScale = pair_of 0 ≡ unturned

-- a quarter turn more takes (c, s) to (-s, c)
abbrev pub AQuarterMoreTurns : Type 0
AQuarterMoreTurns = (a : ℕ) → a < 27000 → pair_of (a + 9000) ≡ (neg_ℤ (pair_of a).1, (pair_of a).0)

-- below 45 degrees, a heading and the one that adds up with it to 90 have each other's parts
abbrev pub TheOtherHalfExchanges : Type 0
TheOtherHalfExchanges = (a b : ℕ) → a < 4500 → a + b ≡ 9000 → pair_of b ≡ exchanged (pair_of a)
