pub mod Multiples
pub mod Divisions
pub mod Clamps
pub mod Wraps
pub mod RootsUp
pub mod LeastRoots
pub mod BitLemmas
pub mod NearTurns
