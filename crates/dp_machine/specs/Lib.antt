pub mod Groups
pub mod Alarms
pub mod Step
pub mod Run
pub mod Reference
pub mod Ranges
pub mod Accepted
pub mod Machine
pub mod Parts
pub mod KeptDemands
pub mod Inside
pub mod Laws
pub mod ReplacedReference
pub use Rattle.dp_machine.specs.Groups.{lost_bit, lost_next}
pub use Rattle.dp_machine.specs.Alarms.{cause_of, damaged_in, is_damaged}
pub use Rattle.dp_machine.specs.Step.{alarms_by, first_state, forces_by, kept_at, limited_by, limits_at, limits_in, measured_by, plane_by, push_by, sensed_by, step_at, step_of, whole_demand, yaw_by}
pub use Rattle.dp_machine.specs.Ranges.{IsStateWithin, IsYawInRange}
pub use Rattle.dp_machine.specs.Accepted.{IsAcceptedPlant}
pub use Rattle.dp_machine.specs.Machine.{MachineValue, first_machine, one_more, with_rest, with_state}
pub use Rattle.dp_machine.specs.Parts.{AreEstimates, AreTaken, estimates_by, estimates_of, limited_cycle, plane_cycle, verdicts_by, windows_by, yaw_cycle}
pub use Rattle.dp_machine.specs.Inside.{IsMachine, value_of}
pub use Rattle.dp_machine.specs.Laws.{IssuesAreOfTheirCycle, IssuesAreWithinLimits, IssuesHaveAForceForEachThruster}
pub use Rattle.dp_machine.specs.ReplacedReference.{ReplacedReferenceIsBounded, RunsShareAllButTheReplaced}
