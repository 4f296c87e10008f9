-- What is answered while a record is read, and at its end.
use Rattle.std.specs.Prelude.{◌≡◌, ℕ, ◌+◌, ◌-◌, List, [], ◌∷◌, ◌++◌, Bool, true, false, nat_lt, if◌then◌else◌, Option, Some, None, map, ⊤}
use Rattle.std.specs.List.{range_with_len}
use Rattle.dp_plant.specs.declared.frames.Frame.{Frame}
use Rattle.dp_frame.specs.declared.entry.Entry.{Entry}
use Rattle.dp_frame.specs.declared.settings.Settings.{Settings}
use Rattle.dp_frame.specs.declared.fault.Refusal.{Refusal}
use Rattle.dp_frame.specs.declared.fault.Refusal.TheVariants as refusal
use Rattle.dp_frame.specs.declared.feed.Feed.{Feed}
use Rattle.dp_frame.specs.declared.feed.Feed.TheVariants.{More, Closed, Fault, TooMany}
use Rattle.dp_frame.specs.declared.feed.Ended.{Ended}
use Rattle.dp_frame.specs.declared.feed.Ended.TheVariants.{Nothing, Cycle, Record}
use Rattle.dp_frame.specs.declared.feed.Phase.{Phase}
use Rattle.dp_frame.specs.declared.feed.Phase.TheVariants.{Open, Last, Done}
use Rattle.dp_frame.specs.Frames.{frame_of, no_frame}
use Rattle.dp_frame.specs.Record.{all_lines, ended_lines, entries, first_refusal, last_cycle}

abbrev pub told : Refusal → Feed
told (refusal.Faulty line kind) = Fault line kind
told (refusal.TooMany line cycle) = TooMany line cycle

abbrev pub told_or : Option Refusal → Feed → Feed
told_or (Some r) feed = told r
told_or None feed = feed

-- the answer that tells what came to its end, where this frame was closed last
abbrev pub feed_of : Frame → Ended → Feed
feed_of frame Nothing = More
feed_of frame (Cycle empty) = Closed frame empty
feed_of frame (Record refusal) = told refusal

-- the frame that comes to its end where the entries grow, with the number of empty ones behind it
unfoldable pub closed : List Entry → List Entry → Feed
closed before after =
    if nat_lt (last_cycle before) (last_cycle after)
    then Closed (frame_of (last_cycle before) after) (last_cycle after - last_cycle before - 1)
    else More

-- what is answered where the lines grow: the first line that can't be taken, else the frame that
-- comes to its end
unfoldable pub answer : Settings → List (List ℕ) → List (List ℕ) → Feed
answer p before after =
    told_or (first_refusal p after) (closed (entries p before) (entries p after))

-- what the next byte of a text is answered: only a line that ends with a line feed is judged
abbrev pub answer_to : Settings → List ℕ → ℕ → Feed
answer_to p text byte = answer p (ended_lines text) (ended_lines (text ++ byte ∷ []))

-- what the end of a text is answered: the line without a line feed is judged too
abbrev pub answer_to_end : Settings → List ℕ → Feed
answer_to_end p text = answer p (ended_lines text) (all_lines text)

-- the last frame of a record, if it has one
unfoldable pub last_frame : List Entry → Feed
last_frame [] = More
last_frame (e ∷ before) = Closed (frame_of e.cycle (e ∷ before)) 0

abbrev pub is_more : Feed → Bool
is_more More = true
is_more other = false

-- what each call of `finish` answers: what the end brings, and then the last frame, once; a line
-- that can't be taken again and again
unfoldable pub ending : Settings → List ℕ → Phase → Feed
ending p text Open =
    if is_more (answer_to_end p text) then last_frame (entries p (all_lines text))
    else answer_to_end p text
ending p text Last =
    told_or (first_refusal p (all_lines text)) (last_frame (entries p (all_lines text)))
ending p text Done = told_or (first_refusal p (all_lines text)) More

-- how far a call of `finish` goes
unfoldable pub phase_after : Settings → List ℕ → Phase → Phase
phase_after p text Open = if is_more (answer_to_end p text) then Done else Last
phase_after p text Last = Done
phase_after p text Done = Done

-- how many more calls of `finish` can close a frame
abbrev pub calls_left : Phase → ℕ
calls_left Open = 2
calls_left Last = 1
calls_left Done = 0

-- the answer tells of a line
abbrev pub is_told : Feed → Bool
is_told (Fault line kind) = true
is_told (TooMany line cycle) = true
is_told other = false

abbrev pub is_closed : Feed → Bool
is_closed (Closed frame empty) = true
is_closed other = false

-- the frames that an answer gives: the one that it closes and the empty ones behind it
abbrev pub given : Feed → List Frame
given (Closed frame empty) = frame ∷ map no_frame (range_with_len (frame.cycle + 1) empty)
given other = []

-- the frame that it closes, if any, is of this cycle
abbrev pub ClosesCycle : ℕ → Feed → Type 0
ClosesCycle n (Closed frame empty) = frame.cycle ≡ n
ClosesCycle n other = ⊤
