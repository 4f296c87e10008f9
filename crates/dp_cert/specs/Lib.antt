pub mod First
pub mod Matrices
pub mod Loop
pub mod WaveLoop
pub mod Sizes
pub mod Ranges
pub mod InRange
pub mod Width
pub mod Valid
pub mod Sound
pub mod Judged
pub mod Bound
pub mod States
pub mod CertifiedSet
pub mod TwinRuns
pub use Rattle.dp_cert.specs.Matrices.{absolute, absolute_rows, column, contraction_matrix, output_matrix, unit}
pub use Rattle.dp_cert.specs.Loop.{axis_three, bias_row, loop_three, place_row, velocity_row}
pub use Rattle.dp_cert.specs.WaveLoop.{loop_five}
pub use Rattle.dp_cert.specs.Sizes.{IsLight, IsSmallAxis, IsSmallLoop}
pub use Rattle.dp_cert.specs.Ranges.{first_out, squares_at, squares_of}
pub use Rattle.dp_cert.specs.InRange.{AreGainsWithin, AreLists, AreNumbers, AreParts, AreWaveSpans, IsUpTo}
pub use Rattle.dp_cert.specs.Width.{first_heavy, first_too_wide, first_wide, is_heavy, is_wide, reach, reach_of, row_heavy, width}
pub use Rattle.dp_cert.specs.Valid.{IsRefusal, IsValid, first_fault, first_short}
pub use Rattle.dp_cert.specs.Sound.{AreBounded, IsSound}
pub use Rattle.dp_cert.specs.Bound.{IsShareRow, IsSplit, bound, share_size}
pub use Rattle.dp_cert.specs.States.{HasNoWaves, IsStateOf, gap, gap_form, matrix_of, state_count, state_form, states_of}
pub use Rattle.dp_cert.specs.CertifiedSet.{CycleStaysInside, InsideIsNarrow, InsideIsWithin, IsInCertifiedSet, IsInside, IsNarrow, RestIsInside, has_past, is_past, reach_by, width_by}
pub use Rattle.dp_cert.specs.TwinRuns.{AreClose, AreForcesWithin, AreMeasuredWithin, AreWithin, CycleContracts, DemandsStayClose, ForcesStayClose, IsTwinCycle, RunsStayClose, SameIsClose, TwinCycle, TwinForcesStayClose, first_after, force_of, kept_gap, second_after, step_in}
