pub mod Made
pub mod Roots
pub mod Text
pub mod Ranges
pub mod Section
pub use Rattle.dp_squares.specs.Made.{list_for, made_cert, made_parts, made_root}
