-- The frames of a record, one for each cycle, and those of them that the answers give.
use Rattle.std.specs.Prelude.{◌≡◌, ℕ, ◌-◌, List, [], ◌∷◌, ◌++◌, length, replicate, map, is_some, if◌then◌else◌}
use Rattle.std.specs.List.{range_with_len}
use Rattle.dp_plant.specs.declared.frames.Frame.{Frame}
use Rattle.dp_frame.specs.declared.entry.Entry.{Entry}
use Rattle.dp_frame.specs.declared.settings.Settings.{Settings}
use Rattle.dp_frame.specs.declared.feed.Feed.{Feed}
use Rattle.dp_frame.specs.declared.feed.Feed.TheVariants.{More}
use Rattle.dp_frame.specs.declared.feed.Phase.{Phase}
use Rattle.dp_frame.specs.declared.feed.Phase.TheVariants.{Open, Last, Done}
use Rattle.dp_frame.specs.Frames.{frame_of}
use Rattle.dp_frame.specs.Record.{all_lines, cycle_count, ended_lines, entries, first_refusal, last_cycle}
use Rattle.dp_frame.specs.Feeds.{answer_to}

-- the frames of the cycles below n, in order
unfoldable pub frames_upto : ℕ → List Entry → List Frame
frames_upto n entries = map (λ k. frame_of k entries) (range_with_len 0 n)

-- the frames of the cycles that are over: those before the last line's
unfoldable pub frames_so_far : Settings → List (List ℕ) → List Frame
frames_so_far p lines = frames_upto (last_cycle (entries p lines)) (entries p lines)

-- how many cycles of a record come to their end: all, or, where a line can't be taken, those before
-- the last good line's
unfoldable pub record_length : Settings → List (List ℕ) → ℕ
record_length p lines =
    if is_some (first_refusal p lines) then last_cycle (entries p lines)
    else cycle_count (entries p lines)

-- the frames of these cycles
unfoldable pub record_frames : Settings → List (List ℕ) → List Frame
record_frames p lines = frames_upto (record_length p lines) (entries p lines)

-- the frames that were given when a record was read so far
unfoldable pub frames_given : Settings → List ℕ → Phase → List Frame
frames_given p text Open = frames_so_far p (ended_lines text)
frames_given p text Last = frames_so_far p (all_lines text)
frames_given p text Done = record_frames p (all_lines text)

-- the answers to the bytes of a text, after those of another
unfoldable pub answers_after : Settings → List ℕ → List ℕ → List Feed
answers_after p before [] = []
answers_after p before (byte ∷ text) =
    answer_to p before byte ∷ answers_after p (before ++ byte ∷ []) text

-- the last of these bytes is answered so, and those before it bring nothing
pub record IsAnswered (p : Settings) (before text : List ℕ) (feed : Feed) : Type 0 where
  pub answers : answers_after p before text ≡ replicate (length text - 1) More ++ feed ∷ []
