pub mod Vectors
pub mod Form
pub mod Range
pub mod Residual
pub mod Shown
pub mod Dominance
pub mod Scaling
pub mod Triangle
pub mod Mix
pub mod Axes
pub mod Clamp
pub mod ProductLaws
pub mod Made
pub use Rattle.dp_form.specs.Vectors.{apply, dot, entry, row}
pub use Rattle.dp_form.specs.Form.{HasSize, IsNonNegative, IsSymmetric, form}
pub use Rattle.dp_form.specs.Range.{IsSmallSquare, IsWithin}
pub use Rattle.dp_form.specs.Residual.{residual}
pub use Rattle.dp_form.specs.Shown.{IsFirstShort, IsShown, shortfall}
pub use Rattle.dp_form.specs.Dominance.{DominantIsNonNegative, ShownIsNonNegative}
pub use Rattle.dp_form.specs.Triangle.{PlaneTriangle}
pub use Rattle.dp_form.specs.Mix.{MixBelow}
pub use Rattle.dp_form.specs.Axes.{AxesSplit, ShortPairBound}
pub use Rattle.dp_form.specs.Clamp.{ClampShares}
pub use Rattle.dp_form.specs.ProductLaws.{FactorsCancel, FactorsKeepOrder, ProductsAssociate, ProductsDistribute, SquaresAreNonNegative}
pub use Rattle.dp_form.specs.Made.{made_of}
