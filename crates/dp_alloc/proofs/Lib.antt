pub mod CornerLaws
pub mod Effects
pub mod Forces
pub mod Accepting
pub mod KeptCases
pub mod ForceLimits
pub mod Moments
