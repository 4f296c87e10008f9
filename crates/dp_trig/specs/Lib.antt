pub mod Rotation
pub mod SinePair
pub mod Tables
pub mod PairLaws
pub use Rattle.dp_trig.specs.Rotation.{IsShort, PartsWithin, repeated, turned}
pub use Rattle.dp_trig.specs.SinePair.{octant_pair, pair_of, quadrant_pair}
pub use Rattle.dp_trig.specs.Tables.{AreRotations}
pub use Rattle.dp_trig.specs.PairLaws.{AQuarterMoreTurns, EveryPairHasPartsWithin, EveryPairIsShort, NorthIsTheScale, TheOtherHalfExchanges}
