pub mod Window
pub mod Verdict
pub mod Totals
pub mod Running
pub mod Tested
pub mod Inside
pub mod Laws
pub use Rattle.dp_reftest.specs.Window.{AreNear, IsKept, kept_by, window_next}
pub use Rattle.dp_reftest.specs.Verdict.{IsVerdictWithin, distance, is_jump, verdict_of, weight_of}
pub use Rattle.dp_reftest.specs.Totals.{AreSums, EndsIn, is_same, square_of, sums_of}
pub use Rattle.dp_reftest.specs.Running.{IsRunning, is_frozen_by, pair, spread_by, square_millimetres, variance_by, verdict_by, verdict_by_samples, verdict_by_variance}
pub use Rattle.dp_reftest.specs.Tested.{tested_by, untested}
pub use Rattle.dp_reftest.specs.Inside.{IsTest, tested}
pub use Rattle.dp_reftest.specs.Laws.{VerdictRestsOnItsOwnWire, WindowIsTheLastReadings}
