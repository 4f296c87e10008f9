pub mod LocalFrame
pub mod Slots
pub mod Frames
pub mod Wires
pub mod Contents
pub mod Line
pub mod Record
pub mod Feeds
pub mod Progresses
pub mod LinesState
pub mod Represents
pub mod Cycles
pub mod Laws
pub mod Ranges
pub mod Told
pub use Rattle.dp_frame.specs.LocalFrame.{IsCosineAt, IsOrigin, local_of, origin_of}
pub use Rattle.dp_frame.specs.Slots.{counted_slot, gust_of, heading_of, no_slot, place_of, ready_of}
pub use Rattle.dp_frame.specs.Frames.{IsFrameBounded, frame_of, no_frame}
pub use Rattle.dp_frame.specs.Wires.{IsWire, numbered, wire_of}
pub use Rattle.dp_frame.specs.Contents.{content_by, content_of, kind_of}
pub use Rattle.dp_frame.specs.Line.{judge, judge_rest, judge_time, judge_wire, name_len, number_of, time_len}
pub use Rattle.dp_frame.specs.Record.{all_lines, ended_lines, entries, first_refusal, last_cycle}
pub use Rattle.dp_frame.specs.Feeds.{ClosesCycle, answer, answer_to, calls_left, closed, ending, feed_of, given, is_closed, last_frame, phase_after, told}
pub use Rattle.dp_frame.specs.Progresses.{Follows, IsReadable, IsSoundProgress, ProgressRepresents}
pub use Rattle.dp_frame.specs.LinesState.{IsSoundState}
pub use Rattle.dp_frame.specs.Represents.{IsOpen, RepresentsWhole, settings_of}
pub use Rattle.dp_frame.specs.Cycles.{IsAnswered, frames_so_far, record_frames}
pub use Rattle.dp_frame.specs.Laws.{AnswersGive, ClosedIsNext, FeedGives, FinishGives, FinishGivesAll, FramesLast, PieceGives, PrefixOfRecord, RefusalLasts, ToldIsFirst}
pub use Rattle.dp_frame.specs.Ranges.{IsContentWithin, IsEntryWithin, IsFeedInRange, IsJudgedWithin}
pub use Rattle.dp_frame.specs.Told.{LineIsTold, Tells, name_of}
