pub mod Counts
pub mod Waits
pub mod Equality
pub mod Confirmations
pub mod Hearing
pub mod Telling
pub mod Offering
