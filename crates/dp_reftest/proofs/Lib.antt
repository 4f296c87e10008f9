pub mod Adding
pub mod Spreads
pub mod Shares
pub mod Reading
pub mod Rings
pub mod Windows
pub mod Testing
