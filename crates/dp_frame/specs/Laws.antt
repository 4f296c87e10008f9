-- What follows from the definitions, for every text and whatever a record is read with.
use Rattle.std.specs.Prelude.{◌≡◌, ℕ, ◌<◌, List, [], ◌∷◌, ◌++◌, length, take, false, Some, is_some}
use Rattle.std.specs.List.{flat_map}
use Rattle.dp_plant.specs.declared.frames.Frame.{Frame}
use Rattle.dp_frame.specs.declared.settings.Settings.{Settings}
use Rattle.dp_frame.specs.declared.fault.Refusal.{Refusal}
use Rattle.dp_frame.specs.declared.feed.Feed.{Feed}
use Rattle.dp_frame.specs.declared.feed.Feed.TheVariants.{Closed}
use Rattle.dp_frame.specs.declared.feed.Phase.{Phase}
use Rattle.dp_frame.specs.Frames.{frame_of}
use Rattle.dp_frame.specs.Record.{all_lines, ended_lines, entries, first_refusal, last_cycle}
use Rattle.dp_frame.specs.Feeds.{answer_to, ending, given, is_closed, is_told, phase_after, told}
use Rattle.dp_frame.specs.Cycles.{IsAnswered, answers_after, frames_given, frames_so_far, record_frames}

-- a byte adds to the frames that are over just what it is answered
abbrev pub FeedGives : Type 0
FeedGives =
    (p : Settings) (text : List ℕ) (byte : ℕ) → 0 < p.cycle_ms
    → frames_so_far p (ended_lines (text ++ byte ∷ []))
    ≡ frames_so_far p (ended_lines text) ++ given (answer_to p text byte)

-- so over any list of bytes the frames that the answers give are those of the record, in order
abbrev pub AnswersGive : Type 0
AnswersGive =
    (p : Settings) (text : List ℕ) → 0 < p.cycle_ms
    → flat_map given (answers_after p [] text) ≡ frames_so_far p (ended_lines text)

-- a call of `finish` adds to the frames given just what it answers
abbrev pub FinishGives : Type 0
FinishGives =
    (p : Settings) (text : List ℕ) (phase : Phase) → 0 < p.cycle_ms
    → frames_given p text (phase_after p text phase)
    ≡ frames_given p text phase ++ given (ending p text phase)

-- where `finish` gives no frame, all frames of the record were given
abbrev pub FinishGivesAll : Type 0
FinishGivesAll =
    (p : Settings) (text : List ℕ) (phase : Phase) → 0 < p.cycle_ms
    → is_closed (ending p text phase) ≡ false
    → frames_given p text phase ≡ record_frames p (all_lines text)

-- a frame that is over is that of the whole record, however it goes on
abbrev pub FramesLast : Type 0
FramesLast =
    (p : Settings) (text more : List ℕ) (n : ℕ) → 0 < p.cycle_ms
    → n < last_cycle (entries p (ended_lines text))
    → (frame_of n (entries p (ended_lines (text ++ more)))
    ≡ frame_of n (entries p (ended_lines text)))
    × (frame_of n (entries p (all_lines (text ++ more)))
    ≡ frame_of n (entries p (ended_lines text)))

-- so the frames that are over are the first ones of the whole record
abbrev pub PrefixOfRecord : Type 0
PrefixOfRecord =
    (p : Settings) (text more : List ℕ) → 0 < p.cycle_ms
    → take (length (frames_so_far p (ended_lines text)))
    (record_frames p (all_lines (text ++ more))) ≡ frames_so_far p (ended_lines text)

-- the first line that can't be taken stays the first, however the text goes on, and ends the record
abbrev pub RefusalLasts : Type 0
RefusalLasts =
    (p : Settings) (text more : List ℕ) (r : Refusal) → first_refusal p (ended_lines text) ≡ Some r
    → (first_refusal p (ended_lines (text ++ more)) ≡ Some r)
    × (first_refusal p (all_lines (text ++ more)) ≡ Some r)
    × (record_frames p (all_lines (text ++ more)) ≡ frames_so_far p (ended_lines text))

-- a frame that is closed has the number of the frames before it
abbrev pub ClosedIsNext : Type 0
ClosedIsNext =
    (p : Settings) (text : List ℕ) (byte : ℕ) (phase : Phase) (frame : Frame) (empty : ℕ)
    → 0 < p.cycle_ms
    → (answer_to p text byte ≡ Closed frame empty
    → frame.cycle ≡ length (frames_so_far p (ended_lines text)))
    × (ending p text phase ≡ Closed frame empty → frame.cycle ≡ length (frames_given p text phase))

-- an answer tells of a line just where one can't be taken, and then of the first
abbrev pub ToldIsFirst : Type 0
ToldIsFirst =
    (p : Settings) (text : List ℕ) (byte : ℕ) (phase : Phase) (r : Refusal)
    → (is_told (answer_to p text byte)
    ≡ is_some (first_refusal p (ended_lines (text ++ byte ∷ []))))
    × (answer_to p text byte ≡ told r → first_refusal p (ended_lines (text ++ byte ∷ [])) ≡ Some r)
    × (is_told (ending p text phase) ≡ is_some (first_refusal p (all_lines text)))
    × (ending p text phase ≡ told r → first_refusal p (all_lines text) ≡ Some r)

-- a piece of which only the last byte brings something adds to the frames that are over just those
-- that its answer gives, and tells of a line just where one can't be taken
abbrev pub PieceGives : Type 0
PieceGives =
    (p : Settings) (text piece : List ℕ) (feed : Feed) → 0 < p.cycle_ms
    → IsAnswered p text piece feed
    → (frames_so_far p (ended_lines (text ++ piece))
    ≡ frames_so_far p (ended_lines text) ++ given feed)
    × (is_told feed ≡ is_some (first_refusal p (ended_lines (text ++ piece))))
    × ((r : Refusal) → feed ≡ told r → first_refusal p (ended_lines (text ++ piece)) ≡ Some r)
