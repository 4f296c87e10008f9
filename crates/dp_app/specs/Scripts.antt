-- What a script's file comes to: its acts, or the first refusal.
use Rattle.std.specs.Prelude.{ℕ, false, List, Option, Some, None, Result, Ok, Err, if◌then◌else◌}
use Rattle.dp_accept.specs.{Prefix, prefix_of}
use Rattle.dp_script.specs.declared.fault.ScriptFault.{ScriptFault}
use Rattle.dp_script.specs.declared.fault.ScriptFault.TheVariants as fault
use Rattle.dp_script.specs.declared.timed_act.TimedAct.{TimedAct}
use Rattle.dp_script.specs.Faults.{fault_in}
use Rattle.dp_script.specs.TimedActs.{timed_acts_by}
use Rattle.dp_text.specs.Lines.{lines_of}
use Rattle.dp_app.specs.declared.script_file.ScriptTrouble.{ScriptTrouble}
use Rattle.dp_app.specs.declared.script_file.ScriptTrouble.TheVariants as trouble

-- the most bytes of a script, 2^24
abbrev pub script_limit : ℕ
script_limit = 16777216

-- a script's acts in order, each with its cycle
abbrev pub script_of : List ℕ → List TimedAct
script_of text = timed_acts_by (lines_of false text)

-- unless a line is at fault
abbrev pub script_by : Option ScriptFault → List ℕ → Result (List TimedAct) ScriptTrouble
script_by (Some (fault.Line line kind)) text = Err (trouble.Line line kind)
script_by (Some fault.Memory) text = Err trouble.Memory
script_by None text = Ok (script_of text)

-- its length comes before its lines
unfoldable pub script_within : Prefix → Result (List TimedAct) ScriptTrouble
script_within f = if f.goes_on then Err trouble.Long else script_by (fault_in f.text) f.text

-- by its text, or without one
abbrev pub script_in : Option (List ℕ) → Result (List TimedAct) ScriptTrouble
script_in (Some text) = script_within (prefix_of script_limit text)
script_in None = Err trouble.Read

-- the file gives this refusal, and no failure while it was read
abbrev pub IsOfScript : ScriptTrouble → Type 0
IsOfScript trouble.Read = ⊥
IsOfScript trouble.Memory = ⊥
IsOfScript trouble.Long = Unit {0}
IsOfScript (trouble.Line line kind) = Unit {0}
