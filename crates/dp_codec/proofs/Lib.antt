pub mod Fields
pub mod Numerals
pub mod Loop
pub mod StateFields
pub mod StateRanges
pub mod Lengths
pub mod Whole
