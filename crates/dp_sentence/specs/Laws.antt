-- What follows from the definitions, for every line.
use Rattle.std.specs.Prelude.{◌≢◌, ℕ, ◌-◌, ◌≤◌, ◌<◌, List, length, slice_index, slice_set}
use Rattle.dp_sentence.specs.Address.{talker, formatter}
use Rattle.dp_sentence.specs.Fields.{fields}
use Rattle.dp_sentence.specs.Sentence.{IsSentence}
use Rattle.dp_sentence.specs.Written.{written, IsSameButForCase}

-- the parts of a sentence, written out, are its line but for the case of the two digits
abbrev pub WrittenBack : Type 0
WrittenBack =
    (line : List ℕ) → IsSentence line
    → IsSameButForCase (written (talker line) (formatter line) (fields line)) line

-- with another byte at one place of its body, and the same digits, a sentence is none
abbrev pub OneByteChanged : Type 0
OneByteChanged =
    (line : List ℕ) (place byte : ℕ) → IsSentence line → 1 ≤ place → place < length line - 3
    → byte ≢ slice_index line place
    → ¬ (IsSentence (slice_set line place byte))
