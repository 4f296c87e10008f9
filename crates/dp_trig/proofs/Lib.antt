pub mod Lengths
pub mod Fits
pub mod Tables
pub mod SinePairs
pub mod Symmetry
