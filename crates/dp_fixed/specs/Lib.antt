pub mod Scale
pub mod Division
pub mod Order
pub mod Turns
pub mod Roots
pub mod Bits
pub mod Laws
pub use Rattle.dp_fixed.specs.Scale.{full_scale, full_scale_squared}
pub use Rattle.dp_fixed.specs.Division.{IsCeil, IsFloor, ceil_of, floor_of}
pub use Rattle.dp_fixed.specs.Order.{clamp_of, mid3_of}
pub use Rattle.dp_fixed.specs.Turns.{IsWrapped, wrap_of}
pub use Rattle.dp_fixed.specs.Bits.{bits_of, is_set}
pub use Rattle.dp_fixed.specs.Roots.{IsRootUp, root_of}
