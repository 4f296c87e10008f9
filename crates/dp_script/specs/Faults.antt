-- The first faulty line of a script. Lines and instructions that come before another stand newest first.
use Rattle.std.specs.Prelude.{ℕ, ◌+◌, ◌^◌, Bool, true, false, ◌==◌, nat_lt, nat_le, List, [], ◌∷◌, length, reverse, Option, Some, None, Result, Ok, Err, if◌then◌else◌}
use Rattle.std.specs.List.{filter_map}
use Rattle.std.specs.Option.{option_map, option_or}
use Rattle.std.specs.Result.{result_ok}
use Rattle.dp_text.specs.Lines.{lines_of}
use Rattle.dp_script.specs.declared.instruction.Instruction.{Instruction}
use Rattle.dp_script.specs.declared.fault.ScriptFault.{ScriptFault}
use Rattle.dp_script.specs.declared.fault.ScriptFault.TheVariants.{Line}
use Rattle.dp_script.specs.declared.fault.ScriptKind.{ScriptKind}
use Rattle.dp_script.specs.declared.fault.ScriptKind.TheVariants.{Range, Order}
use Rattle.dp_script.specs.Instructions.{instruction_of}

-- a line that is empty or begins with `#` is skipped
abbrev pub is_skipped : List ℕ → Bool
is_skipped [] = true
is_skipped (c ∷ cs) = c == 35

-- what a line says, where it isn't skipped and has no fault of its own
unfoldable pub said_by : List ℕ → Option Instruction
said_by line = if is_skipped line then None else result_ok (instruction_of line)

-- what lines say
abbrev pub instructions_of : List (List ℕ) → List Instruction
instructions_of lines = filter_map said_by lines

-- the cycle of the last instruction, or 0
abbrev pub last_cycle : List Instruction → ℕ
last_cycle [] = 0
last_cycle (instruction ∷ before) = instruction.cycle

-- the fault of an instruction after those before it: one too many, or a cycle that goes back
abbrev pub fault_after : List Instruction → Instruction → Option ScriptKind
fault_after before instruction =
    if nat_le (2 ^ 16) (length before) then Some Range
    else if nat_lt instruction.cycle (last_cycle before) then Some Order
    else None

abbrev pub fault_of_instruction : List Instruction → Result Instruction ScriptKind → Option ScriptKind
fault_of_instruction before (Err kind) = Some kind
fault_of_instruction before (Ok instruction) = fault_after before instruction

-- the fault of a line after those before it: its own, or that of what it says
unfoldable pub fault_of : List (List ℕ) → List ℕ → Option ScriptKind
fault_of before line =
    if is_skipped line then None else fault_of_instruction (instructions_of before) (instruction_of line)

-- the first faulty line, lines counted from 1
unfoldable pub first_fault : List (List ℕ) → Option ScriptFault
first_fault [] = None
first_fault (line ∷ before) =
    option_or (first_fault before) (option_map (Line (length before + 1)) (fault_of before line))

-- the first faulty line of a text
abbrev pub fault_in : List ℕ → Option ScriptFault
fault_in text = first_fault (reverse (lines_of false text))
