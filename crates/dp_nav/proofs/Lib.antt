pub mod AngleCuts
pub mod DigitBounds
pub mod FirstFields
pub mod DigitCuts
pub mod KeptDecimals
pub mod PointedTexts
pub mod NamedPlaces
