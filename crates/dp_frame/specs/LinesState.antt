-- What a `Lines` holds.
use Rattle.std.specs.Prelude.{ℕ, ◌+◌, ◌≤◌, ◌^◌, List, length}
use Rattle.dp_frame.specs.declared.progress.Progress.{Progress}
use Rattle.dp_frame.specs.declared.feed.Phase.{Phase}
use Rattle.dp_frame.specs.Progresses.{IsSoundProgress}

-- what is kept of the lines that have ended, the first 193 bytes of the line that hasn't, the
-- number of its bytes, how many bytes were
-- fed, and how far the record was read
pub record LinesState : Type 0 where
  pub progress : Progress
  pub prefix : List ℕ
  pub prefix_len : ℕ
  pub bytes : ℕ
  pub phase : Phase

pub record IsSoundState (s : LinesState) : Type 0 where
  pub progress : IsSoundProgress s.progress
  pub few : s.progress.number + s.prefix_len ≤ s.bytes
  pub fed : s.bytes ≤ 2 ^ 40
  pub short : length s.prefix ≤ 193
