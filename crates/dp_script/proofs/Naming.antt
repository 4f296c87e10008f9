-- The acts of a cycle: by the timed acts, as by the lines.
use Rattle.std.proofs.Common.{◌≡◌, ℕ, ◌==◌, Bool, true, false, List, [], ◌∷◌, ◌++◌, map, filter, refl, ap, ◌∙◌}
use Rattle.std.specs.Prelude.{if◌then◌else◌}
use Rattle.std.specs.List.{flat_map, list_any}
use Rattle.std.proofs.lemmas.List.{map-append}
use Rattle.std.proofs.lemmas.List.Elements.{filter-append}
use Rattle.dp_script.specs.declared.act.Act.{Act}
use Rattle.dp_script.specs.declared.instruction.Acts.{Acts}
use Rattle.dp_script.specs.declared.instruction.Acts.TheVariants.{Usual, One}
use Rattle.dp_script.specs.declared.instruction.Instruction.{Instruction}
use Rattle.dp_script.specs.declared.timed_act.TimedAct.{TimedAct}
use Rattle.dp_script.specs.Acts.{usual_acts}
use Rattle.dp_script.specs.Instructions.{listed}
use Rattle.dp_script.specs.TimedActs.{acts_at, timed_acts_with, timed_acts_of, or_usual}

abbrev acts_named : ℕ → List TimedAct → List Act
acts_named cycle timed_acts = map (λ timed_act. timed_act.act) (filter (λ timed_act. timed_act.cycle == cycle) timed_acts)

abbrev instructions_named : ℕ → List Instruction → List Instruction
instructions_named cycle instructions = filter (λ instruction. instruction.cycle == cycle) instructions

all_named : (cycle now : ℕ) (acts : List Act) → (now == cycle) ≡ true → acts_named cycle (timed_acts_with now acts) ≡ acts
all_named cycle now [] e = refl
all_named cycle now (act ∷ acts) e = rw e (ap (λ (rest : List Act). act ∷ rest) (all_named cycle now acts e))

none_named : (cycle now : ℕ) (acts : List Act) → (now == cycle) ≡ false → acts_named cycle (timed_acts_with now acts) ≡ []
none_named cycle now [] e = refl
none_named cycle now (act ∷ acts) e = rw e (none_named cycle now acts e)

acts_named-append : (cycle : ℕ) (xs ys : List TimedAct) → acts_named cycle (xs ++ ys) ≡ acts_named cycle xs ++ acts_named cycle ys
acts_named-append cycle xs ys =
    rw (filter-append (λ (timed_act : TimedAct). timed_act.cycle == cycle) xs ys) (map-append (λ (timed_act : TimedAct). timed_act.act) (filter (λ timed_act. timed_act.cycle == cycle) xs) (filter (λ timed_act. timed_act.cycle == cycle) ys))

-- the acts of one instruction before others
one_named : (cycle : ℕ) (instruction : Instruction) (instructions : List Instruction) (v : Bool) → (instruction.cycle == cycle) ≡ v
    → acts_named cycle (flat_map timed_acts_of instructions) ≡ flat_map (λ instruction. listed instruction.acts) (instructions_named cycle instructions)
    → acts_named cycle (timed_acts_of instruction) ++ acts_named cycle (flat_map timed_acts_of instructions) ≡ flat_map (λ instruction. listed instruction.acts) (instructions_named cycle (instruction ∷ instructions))
one_named cycle instruction instructions true hit rest = rw (hit, all_named cycle instruction.cycle (listed instruction.acts) hit, rest) refl
one_named cycle instruction instructions false miss rest = rw (miss, none_named cycle instruction.cycle (listed instruction.acts) miss, rest) refl

same_acts : (cycle : ℕ) (instructions : List Instruction) → acts_named cycle (flat_map timed_acts_of instructions) ≡ flat_map (λ instruction. listed instruction.acts) (instructions_named cycle instructions)
same_acts cycle [] = refl
same_acts cycle (instruction ∷ instructions) =
    acts_named-append cycle (timed_acts_of instruction) (flat_map timed_acts_of instructions) ∙ one_named cycle instruction instructions (instruction.cycle == cycle) refl (same_acts cycle instructions)

-- an instruction has an act
some_listed : (acts : Acts) (rest : List Act) → or_usual (listed acts ++ rest) ≡ listed acts ++ rest
some_listed Usual rest = refl
some_listed (One act) rest = refl

or_named_after : (cycle : ℕ) (instruction : Instruction) (instructions : List Instruction) (v : Bool) → (instruction.cycle == cycle) ≡ v
    → or_usual (flat_map (λ instruction. listed instruction.acts) (instructions_named cycle instructions))
    ≡ (if list_any (λ instruction. instruction.cycle == cycle) instructions then flat_map (λ instruction. listed instruction.acts) (instructions_named cycle instructions) else usual_acts)
    → or_usual (flat_map (λ instruction. listed instruction.acts) (instructions_named cycle (instruction ∷ instructions)))
    ≡ (if list_any (λ instruction. instruction.cycle == cycle) (instruction ∷ instructions) then flat_map (λ instruction. listed instruction.acts) (instructions_named cycle (instruction ∷ instructions)) else usual_acts)
or_named_after cycle instruction instructions true hit rest = rw hit (some_listed instruction.acts (flat_map (λ instruction. listed instruction.acts) (instructions_named cycle instructions)))
or_named_after cycle instruction instructions false miss rest = rw miss rest

or_named : (cycle : ℕ) (instructions : List Instruction) → or_usual (flat_map (λ instruction. listed instruction.acts) (instructions_named cycle instructions))
    ≡ (if list_any (λ instruction. instruction.cycle == cycle) instructions then flat_map (λ instruction. listed instruction.acts) (instructions_named cycle instructions) else usual_acts)
or_named cycle [] = refl
or_named cycle (instruction ∷ instructions) = or_named_after cycle instruction instructions (instruction.cycle == cycle) refl (or_named cycle instructions)

-- the acts of a cycle by the timed acts are those by the instructions
pub same_cycle : (cycle : ℕ) (instructions : List Instruction) → acts_at cycle (flat_map timed_acts_of instructions)
    ≡ (if list_any (λ instruction. instruction.cycle == cycle) instructions then flat_map (λ instruction. listed instruction.acts) (filter (λ instruction. instruction.cycle == cycle) instructions) else usual_acts)
same_cycle cycle instructions = ap or_usual (same_acts cycle instructions) ∙ or_named cycle instructions
