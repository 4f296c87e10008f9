-- The words of a command line, as `clap` reads them: a first word, and any number of others.
use Rattle.std.specs.Prelude.{◌≡◌, ◌==◌, not, Bool, true, false, if◌then◌else◌, List, [], ◌∷◌, ◌++◌, Option, Some, None, Result, Ok, Err, Vec, codes, unwrap_or}
use Rattle.std.specs.Borrow.{Bor}
use Rattle.std.specs.List.{list_all}
use Rattle.std.specs.Option.{option_to_list}
use Rattle.std.specs.declared.alloc.Global.{Global}
use Rattle.clap.specs.Words.{App, Kinds, Row, Rule, Text, all_of, fault_of, first_of, matches_of, new_rule}
use Rattle.clap.specs.Simple.{new_shape}
use Rattle.clap.specs.Lexer.{usize_max}
use Rattle.dp_shell.specs.Names.{texts_of}
use Rattle.dp_app.specs.declared.command_line.WordsFault.{WordsFault}
use Rattle.dp_app.specs.declared.command_line.WordsFault.TheVariants as faults

-- the argument for the first word, which has to be there
abbrev pub first_rule : Rule
first_rule = record (new_rule (codes "command")) { required = true }

-- the argument for the others, of which there may be any number
abbrev pub rest_rule : Rule
rest_rule = record (new_rule (codes "rest")) {
  range = Some (record { start_inclusive = 0; end_inclusive = usize_max });
}

-- the simple command as `clap` sees it, without a word that asks for help
abbrev pub dp : App
dp = record {
  top = record (new_shape (codes "dp")) {
    no_binary_name = true;
    disable_help_flag = true;
    rules = first_rule ∷ rest_rule ∷ [];
  };
  subs = [];
}

-- the words that a parse found: the first, and the others
abbrev pub words_found : List Row → List Text
words_found rows =
    option_to_list (first_of (codes "command") rows) ++ unwrap_or (all_of (codes "rest") rows) []

-- nothing is wrong
abbrev pub is_faultless : Kinds → Bool
is_faultless [] = true
is_faultless (k ∷ ks) = false

-- the words of a command line, where it is one
unfoldable pub read_words : List Text → Option (List Text)
read_words words =
    if is_faultless (fault_of dp words) then Some (words_found (matches_of dp words)) else None

-- what a function answered is what reading gives, unless memory ran out
abbrev pub GivesWords : Result (Vec (Bor Text) Global) WordsFault → Option (List Text) → Type 0
GivesWords (Ok v) read = read ≡ Some (texts_of v.items)
GivesWords (Err faults.Usage) read = read ≡ None
GivesWords (Err faults.Memory) read = Unit {0}

-- the word doesn't begin with a hyphen, and none of the words does
abbrev pub is_plain_word : Text → Bool
is_plain_word [] = true
is_plain_word (x ∷ xs) = not (x == 45)

abbrev pub ArePlainWords : List Text → Type 0
ArePlainWords words = list_all is_plain_word words ≡ true
