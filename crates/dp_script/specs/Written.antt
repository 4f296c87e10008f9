-- The lines that say an instruction: a cycle, a word and its arguments, joined by spaces.
use Rattle.std.specs.Prelude.{◌≡◌, ℕ, ◌<◌, ◌≤◌, ◌^◌, ℤ, List, [], ◌∷◌, length, Ok, codes, ⊤}
use Rattle.std.specs.List.{join_with_byte}
use Rattle.dp_text.specs.Laws.{Writes, WritesSigned}
use Rattle.dp_script.specs.declared.act.Act.TheVariants.{Run, Order, Orders, Tell, Skew, Say, Lie, Junk, Stop, Restart, Upgrade}
use Rattle.dp_script.specs.declared.instruction.Acts.{Acts}
use Rattle.dp_script.specs.declared.instruction.Acts.TheVariants.{Usual, One}
use Rattle.dp_script.specs.declared.instruction.Instruction.{Instruction}
use Rattle.dp_script.specs.Instructions.{IsGiven, instruction_of}
use Rattle.dp_script.specs.Hexadecimal.{hexadecimal}

-- the word that names what is done
abbrev pub word_of : Acts → List ℕ
word_of Usual = codes "usual"
word_of (One (Run c)) = codes "run"
word_of (One (Order c k)) = codes "order"
word_of (One (Orders c)) = codes "orders"
word_of (One (Tell a b)) = codes "tell"
word_of (One (Skew c at)) = codes "skew"
word_of (One (Say c k force)) = codes "say"
word_of (One (Lie a b at)) = codes "lie"
word_of (One (Junk a b bytes)) = codes "junk"
word_of (One (Stop c)) = codes "stop"
word_of (One (Restart c)) = codes "restart"
word_of (One (Upgrade c)) = codes "upgrade"

-- an argument: a number without a sign, one that may have a sign, or bytes
pub data Argument : Type 0 where
  whole : ℕ → Argument
  signed : ℤ → Argument
  bytes : List ℕ → Argument

-- the arguments that follow it
abbrev pub arguments_of : Acts → List Argument
arguments_of Usual = []
arguments_of (One (Run c)) = whole c ∷ []
arguments_of (One (Order c k)) = whole c ∷ whole k ∷ []
arguments_of (One (Orders c)) = whole c ∷ []
arguments_of (One (Tell a b)) = whole a ∷ whole b ∷ []
arguments_of (One (Skew c at)) = whole c ∷ signed at.0 ∷ signed at.1 ∷ []
arguments_of (One (Say c k force)) = whole c ∷ whole k ∷ signed force ∷ []
arguments_of (One (Lie a b at)) = whole a ∷ whole b ∷ signed at.0 ∷ signed at.1 ∷ []
arguments_of (One (Junk a b sent)) = whole a ∷ whole b ∷ bytes sent.items ∷ []
arguments_of (One (Stop c)) = whole c ∷ []
arguments_of (One (Restart c)) = whole c ∷ []
arguments_of (One (Upgrade c)) = whole c ∷ []

-- a text writes an argument
abbrev pub WritesOne : List ℕ → Argument → Type 0
WritesOne text (whole n) = Writes text 18 n
WritesOne text (signed n) = WritesSigned text n
WritesOne text (bytes sent) = text ≡ hexadecimal sent

-- texts write these arguments, one each, in order
abbrev pub WriteAll : List (List ℕ) → List Argument → Type 0
WriteAll [] [] = ⊤
WriteAll (text ∷ texts) (argument ∷ arguments) = WritesOne text argument × WriteAll texts arguments
WriteAll texts arguments = ⊥

-- a line says an instruction in range: it is written from its cycle, its word and its arguments
pub record Says (line : List ℕ) (e : Instruction) : Type 0 where
  pub cycle : List ℕ
  pub texts : List (List ℕ)
  pub joined : line ≡ join_with_byte 32 (cycle ∷ word_of e.acts ∷ texts)
  pub short : length line ≤ 192
  pub when : Writes cycle 18 e.cycle
  pub what : WriteAll texts (arguments_of e.acts)
  pub early : e.cycle < 2 ^ 20
  pub within : IsGiven e.acts

-- what is read of a line is what it says, and what a line says is read
pub record LineIsWritten : Type 0 where
  pub written : (line : List ℕ) (e : Instruction) → instruction_of line ≡ Ok e → Says line e
  pub read : (line : List ℕ) (e : Instruction) → Says line e → instruction_of line ≡ Ok e
