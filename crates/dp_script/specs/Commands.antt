-- The table of verbs.
use Rattle.std.specs.Prelude.{ℕ, ◌%◌, ◌==◌, ◌&&◌, ℤ, nat_le, List, [], ◌∷◌, length, Option, Some, None, Result, Ok, Err, codes, if◌then◌else◌}
use Rattle.std.specs.List.{list_all}
use Rattle.std.specs.Str.{bytes_eq}
use Rattle.arrayvec.specs.ArrayVec.{ArrayVec}
use Rattle.dp_text.specs.Numbers.{decimal_of, number_of}
use Rattle.dp_text.specs.Parts.{parts_of}
use Rattle.dp_script.specs.declared.fault.ScriptKind.{ScriptKind}
use Rattle.dp_script.specs.declared.fault.ScriptKind.TheVariants as kind
use Rattle.dp_script.specs.declared.command.Verb.{Verb}
use Rattle.dp_script.specs.declared.command.Verb.TheVariants.{Usual, Order, Skew, Say, Single, Exchange}
use Rattle.dp_script.specs.declared.command.Single.TheVariants.{Run, Orders, Stop, Restart, Upgrade}
use Rattle.dp_script.specs.declared.command.Exchange.{Exchange as Telling}
use Rattle.dp_script.specs.declared.command.Exchange.TheVariants.{Tell, Lie, Junk}
use Rattle.dp_script.specs.declared.command.Command.{Command}
use Rattle.dp_script.specs.declared.command.Command.TheVariants as command
use Rattle.dp_script.specs.declared.command.Message.{Message}
use Rattle.dp_script.specs.declared.command.Message.TheVariants as message
use Rattle.dp_script.specs.declared.command.Phrase.{Phrase}
use Rattle.dp_script.specs.Chains.{◌>>=◌, or_fault}
use Rattle.dp_script.specs.Hexadecimal.{is_lower_digit, paired}

-- the verb of a word
abbrev pub verb_of : List ℕ → Option Verb
verb_of word =
    if bytes_eq word (codes "usual") then Some Usual
    else if bytes_eq word (codes "run") then Some (Single Run)
    else if bytes_eq word (codes "order") then Some Order
    else if bytes_eq word (codes "orders") then Some (Single Orders)
    else if bytes_eq word (codes "tell") then Some (Exchange Tell)
    else if bytes_eq word (codes "skew") then Some Skew
    else if bytes_eq word (codes "say") then Some Say
    else if bytes_eq word (codes "lie") then Some (Exchange Lie)
    else if bytes_eq word (codes "junk") then Some (Exchange Junk)
    else if bytes_eq word (codes "stop") then Some (Single Stop)
    else if bytes_eq word (codes "restart") then Some (Single Restart)
    else if bytes_eq word (codes "upgrade") then Some (Single Upgrade)
    else None

-- a number without a sign
abbrev pub whole_of : List ℕ → Result ℕ ScriptKind
whole_of text = or_fault (decimal_of 18 text) kind.Number

-- a number that may be below zero
abbrev pub signed_of : List ℕ → Result ℤ ScriptKind
signed_of text = or_fault (number_of text) kind.Number

-- the bytes of hexadecimal digits, where these are 2 to 128 and an even number
abbrev pub bytes_of : List ℕ → Option (ArrayVec ℕ)
bytes_of digits =
    if nat_le 2 (length digits) && (nat_le (length digits) 128 && (length digits % 2 == 0))
    then Some (record { items = paired digits }) else None

-- the same, where each byte of a text is such a digit
unfoldable pub hexadecimal_of : List ℕ → Result (Option (ArrayVec ℕ)) ScriptKind
hexadecimal_of text = if list_all is_lower_digit text then Ok (bytes_of text) else Err kind.Number

-- what a verb has one computer tell another, with the arguments that follow the two
unfoldable pub message_of : Telling → List (List ℕ) → Result Message ScriptKind
message_of Tell [] = Ok message.Own
message_of Lie (north ∷ east ∷ []) = do
  north ← signed_of north
  east ← signed_of east
  Ok (message.AtRest north east)
message_of Junk (text ∷ []) = do
  bytes ← hexadecimal_of text
  Ok (message.Bytes bytes)
message_of verb arguments = Err kind.Verb

-- what it says with all its arguments, two computers first
unfoldable pub exchange_of : Telling → List (List ℕ) → Result Command ScriptKind
exchange_of verb (a ∷ b ∷ arguments) = do
  message ← message_of verb arguments
  a ← whole_of a
  b ← whole_of b
  Ok (command.Exchange a b message)
exchange_of verb arguments = Err kind.Verb

-- what a verb says with its arguments, the numbers as they stand
unfoldable pub command_of : Verb → List (List ℕ) → Result Command ScriptKind
command_of Usual [] = Ok command.Usual
command_of Order (c ∷ k ∷ []) = do
  c ← whole_of c
  k ← whole_of k
  Ok (command.Order c k)
command_of Skew (c ∷ north ∷ east ∷ []) = do
  c ← whole_of c
  north ← signed_of north
  east ← signed_of east
  Ok (command.Skew c north east)
command_of Say (c ∷ k ∷ force ∷ []) = do
  c ← whole_of c
  k ← whole_of k
  force ← signed_of force
  Ok (command.Say c k force)
command_of (Single verb) (c ∷ []) = do
  c ← whole_of c
  Ok (command.Single verb c)
command_of (Exchange verb) arguments = exchange_of verb arguments
command_of verb arguments = Err kind.Verb

-- what the parts of a line say: a cycle, a verb and its arguments
unfoldable pub phrase_of_parts : List (List ℕ) → Result Phrase ScriptKind
phrase_of_parts (cycle ∷ word ∷ arguments) = do
  verb ← or_fault (verb_of word) kind.Verb
  command ← command_of verb arguments
  cycle ← whole_of cycle
  Ok (record { cycle = cycle; command = command })
phrase_of_parts parts = Err kind.Verb

-- what a line of at most 192 bytes says
unfoldable pub phrase_of : List ℕ → Result Phrase ScriptKind
phrase_of line = if nat_le (length line) 192 then phrase_of_parts (parts_of line) else Err kind.Verb
