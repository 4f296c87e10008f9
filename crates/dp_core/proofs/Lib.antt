mod Searches
mod Cycles
mod Moments
mod Trajectories
mod Soundness
mod Adoptions
mod FreshBallots
mod Voters
mod Completeness
mod Computers
mod Exchanges
mod OwnForces
mod HeldForces
mod Lists
mod InStep
mod Worlds
mod OneComputer
mod Tells
pub mod HistoryLemmas
pub mod VoteLemmas
mod PlantThrusters
mod Limits
