pub mod Course
pub mod Motion
pub mod MoveLines
pub mod Moves
pub mod MovesDrafts
pub mod Passage
pub mod Limits
pub mod Lines
pub mod Laws
pub use Rattle.dp_guide.specs.Course.{IsFastest, IsGuided, IsJourney, IsNext, IsOnCourse, stopping_way, velocity_of}
pub use Rattle.dp_guide.specs.Motion.{AreLimits, IsMotion, IsStep, begun, gone, headed, is_resting, is_still, left_east, left_heading, left_north, moved, no_velocity, stepped, stepped_by, velocity_next}
pub use Rattle.dp_guide.specs.Laws.{CycleIsGuided, GuideArrives, HeadingNears, IsWorkedRow, JourneyArrives, NextIsOnly, RestIsOnCourse, StepsAreGuided, VelocityIsNext}
pub use Rattle.dp_guide.specs.MoveLines.{IsMoveWithin, move_of}
pub use Rattle.dp_guide.specs.Moves.{IsMoveList, fault_in, first_fault, moves_in, moves_of}
pub use Rattle.dp_guide.specs.Passage.{PassageState, move_taken, passage_after, passage_begun, passage_next, setpoints_of}
pub use Rattle.dp_guide.specs.Limits.{limits_at}
pub use Rattle.dp_guide.specs.Lines.{guide_line}
