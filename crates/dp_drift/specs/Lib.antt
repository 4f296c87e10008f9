pub mod Drift
pub mod Loss
pub mod Lines
pub mod Laws
pub use Rattle.dp_drift.specs.Drift.{drift_by, drift_in, first_past, is_held, is_past, lacking, lacking_on, past_or_within, reach_after, velocity_after, velocity_next, way_after}
pub use Rattle.dp_drift.specs.Loss.{drift_without, ready_groups}
pub use Rattle.dp_drift.specs.Lines.{drift_line, drift_lines, drift_table, drift_words, end_line}
pub use Rattle.dp_drift.specs.Laws.{DriftNeverFalls, IsFirstPast, IsKept, IsWorkedRow, LargerBoxDriftsLess, LargerBoxIsPastLater, PastIsFirst}
