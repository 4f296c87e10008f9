pub mod Thrust
pub mod Corners
pub mod Balance
pub mod Ranges
pub mod Conditions
pub mod Refusals
pub mod Cases
pub mod Laws
pub use Rattle.dp_alloc.specs.Thrust.{forces_of, thrust_of}
pub use Rattle.dp_alloc.specs.Corners.{greatest_thrust, least_thrust}
pub use Rattle.dp_alloc.specs.Ranges.{IsDemandWithin, IsWithinLimits}
pub use Rattle.dp_alloc.specs.Conditions.{case_fault, limits_of}
pub use Rattle.dp_alloc.specs.Refusals.{AreAccepted, IsCaseOf, first_refused}
pub use Rattle.dp_alloc.specs.Cases.{CasesValue, case_in, cases_of}
pub use Rattle.dp_alloc.specs.Laws.{ForcesAreWithinLimits, IsForceWithin, MomentsTurnAlong}
