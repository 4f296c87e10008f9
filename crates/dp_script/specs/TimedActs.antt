-- The acts of each cycle.
use Rattle.std.specs.Prelude.{Bool, ℕ, length, false, ◌==◌, List, [], ◌∷◌, map, if◌then◌else◌}
use Rattle.std.specs.List.{filter, flat_map, list_any, All}
use Rattle.std.specs.List.Sorted.{IsNonDecreasingBy}
use Rattle.dp_text.specs.Lines.{lines_of}
use Rattle.dp_script.specs.declared.act.Act.{Act}
use Rattle.dp_script.specs.declared.instruction.Instruction.{Instruction}
use Rattle.dp_script.specs.declared.timed_act.TimedAct.{TimedAct}
use Rattle.dp_script.specs.Acts.{usual_acts, IsWithin}
use Rattle.dp_script.specs.Instructions.{listed}
use Rattle.dp_script.specs.Faults.{instructions_of}

-- the acts of a cycle by a text: those of the lines that name it, in order, or the usual ones where
-- no line does
abbrev pub acts_in : ℕ → List ℕ → List Act
acts_in cycle text =
    let named : List Instruction = filter
    (λ instruction. instruction.cycle == cycle) (instructions_of (lines_of false text)) in
    if list_any (λ instruction. instruction.cycle == cycle) (instructions_of (lines_of false text))
    then flat_map (λ instruction. listed instruction.acts) named else usual_acts

-- acts, each with this cycle
abbrev pub timed_acts_with : ℕ → List Act → List TimedAct
timed_acts_with cycle acts = map (λ act. record { cycle = cycle; act = act }) acts

-- the acts of an instruction, each with its cycle
abbrev pub timed_acts_of : Instruction → List TimedAct
timed_acts_of instruction = timed_acts_with instruction.cycle (listed instruction.acts)

-- the acts of lines, each with its cycle, in order
abbrev pub timed_acts_by : List (List ℕ) → List TimedAct
timed_acts_by lines = flat_map timed_acts_of (instructions_of lines)

-- acts, or the usual ones where there are none
abbrev pub or_usual : List Act → List Act
or_usual [] = usual_acts
or_usual (act ∷ acts) = act ∷ acts

-- the acts of a cycle among timed acts: its own, in order, or the usual ones where it has none
abbrev pub acts_at : ℕ → List TimedAct → List Act
acts_at cycle timed_acts =
    or_usual
    (map (λ timed_act. timed_act.act)
    (filter (λ timed_act. timed_act.cycle == cycle) timed_acts))

-- no timed act has this cycle, so it has the usual acts
abbrev pub has_usual_acts : ℕ → List TimedAct → Bool
has_usual_acts cycle timed_acts =
    length (filter (λ timed_act. timed_act.cycle == cycle) timed_acts) == 0

-- cycles don't go back, and the numbers of the acts are within their ranges
pub record IsScript (timed_acts : List TimedAct) : Type 0 where
  pub sorted : IsNonDecreasingBy (λ timed_act. timed_act.cycle) timed_acts
  pub within : All (λ timed_act. IsWithin timed_act.act) timed_acts
