-- What a line says, judged alone.
use Rattle.std.specs.Prelude.{ℕ, ◌==◌, ◌^◌, nat_lt, nat_le, List, [], ◌∷◌, ℤ, unsigned_abs, Result, Ok, Err, ⊤, if◌then◌else◌}
use Rattle.dp_script.specs.declared.act.Act.{Act}
use Rattle.dp_script.specs.declared.act.Act.TheVariants as act
use Rattle.dp_script.specs.declared.command.Command.{Command}
use Rattle.dp_script.specs.declared.command.Command.TheVariants.{Usual, Order, Skew, Say, Single, Exchange}
use Rattle.dp_script.specs.declared.command.Single.{Single as One}
use Rattle.dp_script.specs.declared.command.Single.TheVariants.{Run, Orders, Stop, Restart, Upgrade}
use Rattle.dp_script.specs.declared.command.Message.{Message}
use Rattle.dp_script.specs.declared.command.Message.TheVariants.{Own, AtRest, Bytes}
use Rattle.dp_script.specs.declared.instruction.Acts.{Acts}
use Rattle.dp_script.specs.declared.instruction.Acts.TheVariants as acts
use Rattle.dp_script.specs.declared.instruction.Instruction.{Instruction}
use Rattle.dp_script.specs.declared.fault.ScriptKind.{ScriptKind}
use Rattle.dp_script.specs.declared.fault.ScriptKind.TheVariants as kind
use Rattle.dp_script.specs.Chains.{◌>>=◌, or_fault}
use Rattle.dp_script.specs.Acts.{usual_acts, IsWithin}
use Rattle.dp_script.specs.Commands.{phrase_of}

-- a number below a limit
abbrev pub below_of : ℕ → ℕ → Result ℕ ScriptKind
below_of limit n = if nat_lt n limit then Ok n else Err kind.Range

-- another computer than a
abbrev pub other_of : ℕ → ℕ → Result ℕ ScriptKind
other_of a b = if b == a then Err kind.Range else below_of 3 b

-- a number at most a limit away from zero
abbrev pub near_of : ℕ → ℤ → Result ℤ ScriptKind
near_of limit n = if nat_le (unsigned_abs n) limit then Ok n else Err kind.Range

-- the act of a verb that names one computer alone
abbrev pub single_of : One → ℕ → Act
single_of Run c = act.Run c
single_of Orders c = act.Orders c
single_of Stop c = act.Stop c
single_of Restart c = act.Restart c
single_of Upgrade c = act.Upgrade c

-- the act in which computer a tells computer b
unfoldable pub told_of : ℕ → ℕ → Message → Result Act ScriptKind
told_of a b Own = Ok (act.Tell a b)
told_of a b (AtRest north east) = do
  north ← near_of (2 ^ 43) north
  east ← near_of (2 ^ 43) east
  Ok (act.Lie a b (north, east))
told_of a b (Bytes bytes) = do
  bytes ← or_fault bytes kind.Range
  Ok (act.Junk a b bytes)

-- the acts of a command whose numbers are within their ranges
unfoldable pub acts_of : Command → Result Acts ScriptKind
acts_of Usual = Ok acts.Usual
acts_of (Order c k) = do
  c ← below_of 3 c
  k ← below_of 12 k
  Ok (acts.One (act.Order c k))
acts_of (Skew c north east) = do
  c ← below_of 3 c
  north ← near_of (2 ^ 43) north
  east ← near_of (2 ^ 43) east
  Ok (acts.One (act.Skew c (north, east)))
acts_of (Say c k force) = do
  c ← below_of 3 c
  k ← below_of 12 k
  force ← near_of (2 ^ 62) force
  Ok (acts.One (act.Say c k force))
acts_of (Single verb c) = do
  c ← below_of 3 c
  Ok (acts.One (single_of verb c))
acts_of (Exchange a b message) = do
  a ← below_of 3 a
  b ← other_of a b
  act ← told_of a b message
  Ok (acts.One act)

-- a line's acts as a list
abbrev pub listed : Acts → List Act
listed acts.Usual = usual_acts
listed (acts.One act) = act ∷ []

-- what a line that isn't skipped says, with the first of its faults in the order Verb, Number,
-- Range
unfoldable pub instruction_of : List ℕ → Result Instruction ScriptKind
instruction_of line = do
  said ← phrase_of line
  acts ← acts_of said.command
  cycle ← below_of (2 ^ 20) said.cycle
  Ok (record { cycle = cycle; acts = acts })

-- the numbers of a line's acts are within their ranges
abbrev pub IsGiven : Acts → Type 0
IsGiven acts.Usual = ⊤
IsGiven (acts.One act) = IsWithin act
