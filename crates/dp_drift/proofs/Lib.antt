pub mod Firsts
pub mod Drifts
pub mod Cycles
