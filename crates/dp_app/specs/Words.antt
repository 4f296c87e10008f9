-- The commands, and the files that each names.
use Rattle.std.specs.Prelude.{◌≡◌, ℕ, ◌&&◌, List, [], ◌∷◌, Option, Some, None, if◌then◌else◌, nat_le, option_and_then, option_map, codes, Result, Ok, Err}
use Rattle.std.specs.Str.{bytes_eq}
use Rattle.dp_text.specs.Numbers.{decimal_of}
use Rattle.dp_app.specs.CommandLine.{read_words}
use Rattle.dp_app.specs.declared.command_line.WordsFault.{WordsFault}
use Rattle.dp_app.specs.declared.command_line.WordsFault.TheVariants as faults
use Rattle.dp_app.specs.declared.words.Command.{Command as Shown}
use Rattle.dp_app.specs.declared.words.Command.TheVariants as shown
use Rattle.dp_app.specs.declared.fault.File.{File}
use Rattle.dp_app.specs.declared.fault.File.TheVariants.{Plant, Script, Record}

-- a command, with the names of its files: `replay PLANT RECORD SCRIPT`, `check PLANT`, `make NUMBER`,
-- `trial PLANT NUMBER`, `drift PLANT RECORD LIMIT CYCLES`
pub data Command : Type 0 where
  replay : List ℕ → List ℕ → List ℕ → Command
  check : List ℕ → Command
  make : ℕ → Command
  trial : List ℕ → ℕ → Command
  drift : List ℕ → List ℕ → ℕ → ℕ → Command

-- the number of a record: 1 to 10 decimal digits, and at most 2^32 - 1
abbrev pub below_limit : ℕ → Option ℕ
below_limit n = if nat_le n 4294967295 then Some n else None

unfoldable pub record_number : List ℕ → Option ℕ
record_number word = option_and_then below_limit (decimal_of 10 word)

-- a limit of drift in millimetres: 1 to 10 decimal digits, and at most 1000 km
unfoldable pub limit_number : List ℕ → Option ℕ
limit_number word = option_and_then (λ n. if nat_le n 1000000000 then Some n else None)
    (decimal_of 10 word)

-- a number of cycles: 1 to 7 decimal digits, from 1 to 2^20
unfoldable pub cycles_number : List ℕ → Option ℕ
cycles_number word =
    option_and_then (λ n. if nat_le 1 n && nat_le n 1048576 then Some n else None)
    (decimal_of 7 word)

-- the command of a first word with one other, with two, with three, and with four
abbrev pub with_one : List ℕ → List ℕ → Option Command
with_one verb word =
    if bytes_eq verb (codes "check") then Some (check word)
    else (if bytes_eq verb (codes "make") then option_map make (record_number word) else None)

abbrev pub with_two : List ℕ → List ℕ → List ℕ → Option Command
with_two verb plant word =
    if bytes_eq verb (codes "trial") then option_map (trial plant) (record_number word) else None

abbrev pub with_three : List ℕ → List ℕ → List ℕ → List ℕ → Option Command
with_three verb plant record_name script =
    if bytes_eq verb (codes "replay") then Some (replay plant record_name script) else None

abbrev pub with_four : List ℕ → List ℕ → List ℕ → List ℕ → List ℕ → Option Command
with_four verb plant record_name limit cycles =
    if bytes_eq verb (codes "drift")
    then option_and_then (λ n. option_map (drift plant record_name n) (cycles_number cycles))
    (limit_number limit)
    else None

-- the command of these words; none where they are no command
unfoldable pub command_by : List (List ℕ) → Option Command
command_by [] = None
command_by (verb ∷ []) = None
command_by (verb ∷ first ∷ []) = with_one verb first
command_by (verb ∷ first ∷ second ∷ []) = with_two verb first second
command_by (verb ∷ first ∷ second ∷ third ∷ []) = with_three verb first second third
command_by (verb ∷ first ∷ second ∷ third ∷ fourth ∷ []) = with_four verb first second third fourth
command_by (verb ∷ first ∷ second ∷ third ∷ fourth ∷ fifth ∷ words) = None

-- the command of a command line; none where it is no command
unfoldable pub command_in : List (List ℕ) → Option Command
command_in words = option_and_then command_by (read_words words)

-- a file that is read, and its name
pub record FileNamed : Type 0 where
  pub file : File
  pub name : List ℕ

-- a command's plant, its script and its record, by their names
abbrev pub plant_file : List ℕ → FileNamed
plant_file name = record { file = Plant; name = name }

abbrev pub script_file : List ℕ → FileNamed
script_file name = record { file = Script; name = name }

abbrev pub record_file : List ℕ → FileNamed
record_file name = record { file = Record; name = name }

-- the files that a command reads, in this order
abbrev pub files_of : Command → List FileNamed
files_of (check plant) = plant_file plant ∷ []
files_of (make number) = []
files_of (trial plant number) = plant_file plant ∷ []
files_of (drift plant record_name limit cycles) = plant_file plant ∷ record_file record_name ∷ []
files_of (replay plant record_name script) =
    plant_file plant ∷ script_file script ∷ record_file record_name ∷ []

-- the files that the words have read, in this order; none where they are no command
abbrev pub files_read : Option Command → List FileNamed
files_read (Some command) = files_of command
files_read None = []

-- a command that words show
abbrev pub shown_command : Shown → Command
shown_command (shown.Replay plant record_name script) = replay plant.now record_name.now script.now
shown_command (shown.Check plant) = check plant.now
shown_command (shown.Make number) = make number
shown_command (shown.Trial plant number) = trial plant.now number
shown_command (shown.Drift plant record_name limit cycles) =
    drift plant.now record_name.now limit cycles

-- what a function answered is the words' command, unless memory ran out
abbrev pub GivesCommand : Result Shown WordsFault → Option Command → Type 0
GivesCommand (Ok c) read = read ≡ Some (shown_command c)
GivesCommand (Err faults.Usage) read = read ≡ None
GivesCommand (Err faults.Memory) read = Unit {0}
