-- The judgement on one line, `t wire rest`, after a line of the time `last`.
use Rattle.std.specs.Prelude.{ℕ, ◌+◌, ◌/◌, ◌^◌, List, ◌==◌, ◌||◌, not, nat_lt, nat_le, if◌then◌else◌, Option, Some, None, length, take, drop, slice_index, unwrap_or}
use Rattle.std.specs.List.{prefix_len}
use Rattle.std.specs.Char.{is_ascii_digit}
use Rattle.dp_text.specs.Numbers.{decimal_of}
use Rattle.dp_text.specs.Parts.{is_space}
use Rattle.dp_plant.specs.declared.frames.Wire.{Wire}
use Rattle.dp_frame.specs.declared.settings.Settings.{Settings}
use Rattle.dp_frame.specs.declared.entry.Judged.{Judged}
use Rattle.dp_frame.specs.declared.entry.Judged.TheVariants.{Blank, Good, Faulty, TooMany}
use Rattle.dp_frame.specs.declared.fault.LineFault.TheVariants.{LongLine, NoTime, BadTime, TimeBack, NoWire, UnknownWire}
use Rattle.dp_frame.specs.Wires.{wire_of}
use Rattle.dp_frame.specs.Contents.{content_of}

-- how many digits a line begins with
abbrev pub time_len : List ℕ → ℕ
time_len line = prefix_len is_ascii_digit line

-- the number of one to 15 digits, else 0
abbrev pub number_of : List ℕ → ℕ
number_of digits = unwrap_or (decimal_of 15 digits) 0

-- the time that a line begins with
unfoldable pub time_of : List ℕ → ℕ
time_of line = number_of (take (time_len line) line)

-- what stands after the time and one space
abbrev pub after_time : List ℕ → List ℕ
after_time line = drop (time_len line + 1) line

-- how many bytes come before the next space, or the end
abbrev pub name_len : List ℕ → ℕ
name_len text = prefix_len (λ b. not (is_space b)) text

-- a line of a known wire, or of none
unfoldable pub judge_rest : Settings → ℕ → List ℕ → Option Wire → Judged
judge_rest p time rest None = Faulty UnknownWire
judge_rest p time rest (Some wire) =
    if nat_le (2 ^ 20) (time / p.cycle_ms) then TooMany (time / p.cycle_ms)
    else Good record
    { time = time; cycle = time / p.cycle_ms; wire = wire; content = content_of p wire rest }

-- what stands after the time: the wire's name, a space, the rest
unfoldable pub judge_wire : Settings → ℕ → List ℕ → Judged
judge_wire p time text =
    if name_len text == 0 then Faulty NoWire
    else judge_rest p time (drop (name_len text + 1) text)
    (wire_of p.groups (take (name_len text) text))

-- a line that isn't empty, nor too long
unfoldable pub judge_time : Settings → ℕ → List ℕ → Judged
judge_time p last line =
    if time_len line == 0 then Faulty NoTime
    else if nat_lt 15 (time_len line) || not (is_space (slice_index line (time_len line)))
    then Faulty BadTime
    else if nat_lt (number_of (take (time_len line) line)) last
    then Faulty (TimeBack last (number_of (take (time_len line) line)))
    else judge_wire p (number_of (take (time_len line) line)) (after_time line)

-- the first fault that holds is named; the cycle is judged last
unfoldable pub judge : Settings → ℕ → List ℕ → Judged
judge p last line =
    if length line == 0 then Blank
    else if nat_lt 192 (length line) then Faulty LongLine
    else judge_time p last line
