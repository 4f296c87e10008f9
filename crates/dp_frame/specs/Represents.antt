-- A reader of lines represents a text where its parts are what the definitions say of that text.
use Rattle.std.specs.Prelude.{◌≡◌, ℕ, List, None, length, take}
use Rattle.dp_plant.specs.declared.plant.Plant.{Plant}
use Rattle.dp_frame.specs.declared.settings.Settings.{Settings}
use Rattle.dp_frame.specs.declared.feed.Phase.TheVariants.{Open}
use Rattle.dp_frame.specs.LocalFrame.{origin_of}
use Rattle.dp_frame.specs.Record.{all_lines, ended_lines, unfinished_line}
use Rattle.dp_frame.specs.Progresses.{ProgressRepresents}
use Rattle.dp_frame.specs.LinesState.{LinesState}

-- what of a plant its record is read with
abbrev pub settings_of : Plant → Settings
settings_of plant =
    record { cycle_ms = plant.cycle_ms; groups = plant.groups; origin = origin_of plant }

-- `finish` wasn't called
abbrev pub IsOpen : LinesState → Type 0
IsOpen s = s.phase ≡ Open

-- the line that hasn't ended, as far as it is kept
pub record KeepsPrefix (s : LinesState) (text : List ℕ) : Type 0 where
  pub prefix : s.prefix ≡ take 193 (unfinished_line text)
  pub prefix_len : s.prefix_len ≡ length (unfinished_line text)

-- the bytes fed so far: only lines that end with a line feed are judged
pub record Represents (s : LinesState) (text : List ℕ) : Type 0 where
  pub bytes : s.bytes ≡ length text
  pub lines : ProgressRepresents s.progress (ended_lines text)
  pub prefix : s.progress.refusal ≡ None → KeepsPrefix s text

-- the whole text, before and after the first call of `finish`, which judges the line that is left
pub record RepresentsWhole (s : LinesState) (text : List ℕ) : Type 0 where
  pub before : IsOpen s → Represents s text
  pub after : ¬ (IsOpen s) → ProgressRepresents s.progress (all_lines text)
