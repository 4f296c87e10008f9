-- The lines of a record, and which of them are good. Lines and entries are taken newest first here,
-- so that those before one are a
-- list's rest.
use Rattle.std.specs.Prelude.{ℕ, ◌+◌, List, [], ◌∷◌, Bool, true, false, ◌==◌, is_some, if◌then◌else◌, Option, Some, None, length, reverse}
use Rattle.std.specs.List.{slice_split, filter_map, position_or_len}
use Rattle.std.specs.Option.{option_or}
use Rattle.dp_text.specs.Lines.{is_newline, lines_of}
use Rattle.dp_frame.specs.declared.entry.Entry.{Entry}
use Rattle.dp_frame.specs.declared.settings.Settings.{Settings}
use Rattle.dp_frame.specs.declared.entry.Judged.{Judged}
use Rattle.dp_frame.specs.declared.entry.Judged.TheVariants as judged
use Rattle.dp_frame.specs.declared.fault.Refusal.{Refusal}
use Rattle.dp_frame.specs.declared.fault.Refusal.TheVariants.{Faulty, TooMany}
use Rattle.dp_frame.specs.Line.{judge, time_of}

-- the lines of a text, a last one without a line feed too
unfoldable pub all_lines : List ℕ → List (List ℕ)
all_lines text = reverse (lines_of false text)

-- the lines that end with a line feed
unfoldable pub ended_lines : List ℕ → List (List ℕ)
ended_lines text = reverse (lines_of true text)

abbrev pub last_piece : List (List ℕ) → List ℕ
last_piece [] = []
last_piece (x ∷ []) = x
last_piece (x ∷ y ∷ more) = last_piece (y ∷ more)

-- how many bytes come before the next line feed, or the end
abbrev pub line_len : List ℕ → ℕ
line_len text = position_or_len is_newline text

-- what stands after the last line feed
unfoldable pub unfinished_line : List ℕ → List ℕ
unfinished_line text = last_piece (slice_split is_newline text)

-- the time of the last line that isn't empty, 0 where there is none
unfoldable pub last_time : List (List ℕ) → ℕ
last_time [] = 0
last_time (line ∷ before) = if length line == 0 then last_time before else time_of line

-- why a line can't be taken, by its number and its judgement
abbrev pub refusal_of : ℕ → Judged → Option Refusal
refusal_of number judged.Blank = None
refusal_of number (judged.Good entry) = None
refusal_of number (judged.Faulty kind) = Some (Faulty number kind)
refusal_of number (judged.TooMany cycle) = Some (TooMany number cycle)

-- the first line that can't be taken, lines counted from 1
unfoldable pub first_refusal : Settings → List (List ℕ) → Option Refusal
first_refusal p [] = None
first_refusal p (line ∷ before) =
    option_or (first_refusal p before)
    (refusal_of (length before + 1) (judge p (last_time before) line))

-- the lines before it
unfoldable pub good_lines : Settings → List (List ℕ) → List (List ℕ)
good_lines p [] = []
good_lines p (line ∷ before) =
    if is_some (first_refusal p (line ∷ before)) then good_lines p before
    else line ∷ good_lines p before

abbrev pub entry_by : Judged → Option Entry
entry_by (judged.Good entry) = Some entry
entry_by other = None

-- what a good line says, as if no line came before it; nothing where it is empty
unfoldable pub entry_of : Settings → List ℕ → Option Entry
entry_of p line = entry_by (judge p 0 line)

-- what the good lines say
unfoldable pub entries : Settings → List (List ℕ) → List Entry
entries p lines = filter_map (entry_of p) (good_lines p lines)

-- the cycle of the last entry, 0 where there is none
unfoldable pub last_cycle : List Entry → ℕ
last_cycle [] = 0
last_cycle (e ∷ before) = e.cycle

-- how many cycles the entries go over: one more than the last cycle, 0 where there is none
unfoldable pub cycle_count : List Entry → ℕ
cycle_count [] = 0
cycle_count (e ∷ before) = e.cycle + 1

unfoldable pub is_begun : List Entry → Bool
is_begun [] = false
is_begun (e ∷ before) = true
