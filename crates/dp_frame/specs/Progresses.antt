-- What is kept of the lines so far.
use Rattle.std.specs.Prelude.{◌≡◌, ℕ, ◌<◌, ◌≤◌, List, None, length}
use Rattle.dp_frame.specs.declared.progress.Progress.{Progress}
use Rattle.dp_frame.specs.declared.entry.Entry.{Entry}
use Rattle.dp_frame.specs.declared.settings.Settings.{Settings}
use Rattle.dp_frame.specs.Frames.{frame_of, IsFrameBounded, IsBefore}
use Rattle.dp_plant.specs.FrameRanges.{IsFrameInRange}
use Rattle.dp_frame.specs.Record.{entries, first_refusal, is_begun, last_cycle, last_time}

-- while every line was taken: their number, the last time, whether one wasn't empty, and the frame
-- of the last cycle so far
pub record Keeps (b : Progress) (lines : List (List ℕ)) : Type 0 where
  pub number : b.number ≡ length lines
  pub last : b.last ≡ last_time lines
  pub begun : b.begun ≡ is_begun (entries b.settings lines)
  pub kept : b.kept ≡ frame_of (last_cycle (entries b.settings lines)) (entries b.settings lines)

-- a progress represents lines, newest first
pub record ProgressRepresents (b : Progress) (lines : List (List ℕ)) : Type 0 where
  pub refusal : b.refusal ≡ first_refusal b.settings lines
  pub keeps : b.refusal ≡ None → Keeps b lines

-- what a record can be read with
pub record IsReadable (p : Settings) : Type 0 where
  pub step : 0 < p.cycle_ms
  pub groups : p.groups ≤ 8

-- the kept frame is in range, and no count is above the number of lines
pub record IsSoundProgress (b : Progress) : Type 0 where
  pub readable : IsReadable b.settings
  pub bounded : IsFrameBounded b.number b.kept
  pub range : IsFrameInRange b.settings.groups b.kept

-- an entry that may follow others: its cycle isn't before the last, and no entry's is after the
-- last
pub record Follows (before : List Entry) (e : Entry) : Type 0 where
  pub later : last_cycle before ≤ e.cycle
  pub rising : (n : ℕ) → last_cycle before < n → IsBefore n before
