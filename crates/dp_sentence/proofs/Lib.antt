pub mod Changes
pub mod Clean
pub mod Cuts
pub mod Judging
pub mod Joins
