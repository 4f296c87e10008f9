-- The last lines: those of faults, and the status that goes with each; and the number of cycles.
use Rattle.std.specs.Prelude.{ℕ, List, ◌++◌, codes}
use Rattle.std.specs.Fmt.{decimal}
use Rattle.dp_accept.specs.Lines.{gains_line, plant_line}
use Rattle.dp_frame.specs.declared.fault.LineFault.{LineFault}
use Rattle.dp_frame.specs.declared.fault.LineFault.TheVariants.{LongLine, NoTime, BadTime, TimeBack, NoWire, UnknownWire}
use Rattle.dp_script.specs.declared.fault.ScriptKind.{ScriptKind}
use Rattle.dp_script.specs.declared.fault.ScriptKind.TheVariants as kind
use Rattle.dp_app.specs.declared.fault.Fault.{Fault}
use Rattle.dp_app.specs.declared.fault.Fault.TheVariants.{Usage, Read, Long, BadPlant, GainsRefused, BadScript, BadRecord, LongCycles, Memory}
use Rattle.dp_app.specs.declared.fault.File.{File}
use Rattle.dp_app.specs.declared.fault.File.TheVariants.{Plant, Script, Record, First, Second, Moves}
use Rattle.dp_app.specs.declared.status.Status.{Status}
use Rattle.dp_app.specs.declared.status.Status.TheVariants as status

-- the word that names a file
abbrev pub file_word : File → List ℕ
file_word Plant = codes "plant"
file_word Script = codes "script"
file_word Record = codes "record"
file_word First = codes "first"
file_word Second = codes "second"
file_word Moves = codes "moves"

-- a fault of a whole file: `fault`, what is wrong, the file's word
abbrev pub file_line : List ℕ → File → List ℕ
file_line what file = codes "fault " ++ (what ++ (codes " " ++ (file_word file ++ codes "\n")))

-- ---- lines of script and record

abbrev pub kind_word : ScriptKind → List ℕ
kind_word kind.Verb = codes "verb"
kind_word kind.Number = codes "number"
kind_word kind.Range = codes "range"
kind_word kind.Order = codes "order"

-- of a time that falls: the time before, and this one, in milliseconds
abbrev pub line_kind_word : LineFault → List ℕ
line_kind_word LongLine = codes "long"
line_kind_word NoTime = codes "notime"
line_kind_word BadTime = codes "badtime"
line_kind_word (TimeBack before now) =
    codes "back " ++ (decimal before ++ (codes " " ++ decimal now))
line_kind_word NoWire = codes "nowire"
line_kind_word UnknownWire = codes "unknown"

-- a fault that names a line: `fault`, the file's word, the line's number, what is wrong with it
abbrev pub named_line : File → ℕ → List ℕ → List ℕ
named_line file number kind =
    codes "fault " ++ (file_word file
    ++ (codes " " ++ (decimal number ++ (codes " " ++ (kind ++ codes "\n")))))

-- ---- all of them

unfoldable pub fault_line : Fault → List ℕ
fault_line Usage = codes "fault usage\n"
fault_line (Read file) = file_line (codes "read") file
fault_line (Long file) = file_line (codes "long") file
fault_line (BadPlant why) = plant_line why
fault_line (GainsRefused why) = gains_line why
fault_line (BadScript line kind) = named_line Script line (kind_word kind)
fault_line (BadRecord file line kind) = named_line file line (line_kind_word kind)
fault_line (LongCycles cycle) = codes "fault long cycles " ++ (decimal cycle ++ codes "\n")
fault_line Memory = codes "fault memory\n"

abbrev pub fault_status : Fault → Status
fault_status Usage = status.Usage
fault_status (Read file) = status.ReadFault
fault_status (Long file) = status.TooLong
fault_status (BadPlant why) = status.BadPlant
fault_status (GainsRefused why) = status.GainsRefused
fault_status (BadScript line kind) = status.BadScript
fault_status (BadRecord file line kind) = status.BadRecord
fault_status (LongCycles cycle) = status.TooLong
fault_status Memory = status.Memory

-- the last line of what does not end with a fault: after so many cycles, or cases
unfoldable pub end_line : ℕ → List ℕ
end_line count = codes "end " ++ (decimal count ++ codes "\n")
