pub mod Decimals
pub mod Fields
pub mod Turns
pub mod Gga
pub mod Hdt
pub mod Ths
pub mod Mwv
pub mod Plain
pub mod ReadingRanges
pub mod Sensed
pub mod Named
pub use Rattle.dp_nav.specs.Decimals.{is_decimal, is_point}
pub use Rattle.dp_nav.specs.Turns.{turn_in, turn_of}
pub use Rattle.dp_nav.specs.Hdt.{hdt_of, true_of}
pub use Rattle.dp_nav.specs.Ths.{is_autonomous_of, mode_of, ths_of}
pub use Rattle.dp_nav.specs.Plain.{group_of, is_plain, local_of, nanometres_of, parts_behind, parts_in, plain_of}
pub use Rattle.dp_nav.specs.ReadingRanges.{IsReadingWithin}
pub use Rattle.dp_nav.specs.Sensed.{sensed_of}
pub use Rattle.dp_nav.specs.Named.{ComesTo, FixIsNamed, NamesCoordinate, NamesPlace, WritesAngle}
