-- Words of which none begins with a hyphen are taken as they stand.
use Rattle.std.proofs.Common.{◌≡◌, ℕ, ◌<◌, ◌≤◌, true, false, nat_lt, List, [], ◌∷◌, ◌++◌, length, Some, None, codes, fold, refl, sym, ap, ◌∙◌, append_assoc, arith}
use Rattle.std.proofs.lemmas.Bool.{and_parts}
use Rattle.std.proofs.lemmas.List.{append-nil}
use Rattle.std.proofs.lemmas.Bool.Decides.{nat_tests}
use Rattle.std.specs.List.{list_all}
use Rattle.std.specs.Str.{bytes_eq}
use Rattle.clap.specs.Lexer.{strip_byte, usize_max}
use Rattle.clap.specs.Words.{Row, Text, fault_of, built}
use Rattle.clap.specs.Simple.{Shape, with_index, filled}
use Rattle.clap.specs.Walk.{Walk, positional, idle, walk, walked, walk_from, nothing_held, reading_by, finished, settled}
use Rattle.clap.specs.Kinds.{range_kinds}
use Rattle.clap.specs.Faults.{turn_fault, walk_fault, settle_fault, defaults_fault, check_fault, values_fault}
use Rattle.clap.specs.declared.parser.matches.ValueSource.TheVariants.{CommandLine}
use Rattle.std.specs.Prelude.{option_and_then}
use Rattle.dp_app.specs.Words.{command_by, command_in}
use Rattle.clap.proofs.OnLiterals.{clap_on_literals}
use Rattle.dp_app.specs.CommandLine.{ArePlainWords, dp, first_rule, rest_rule, is_plain_word, read_words}

-- the command as `clap` builds it
abbrev top : Shape
top = (built dp).top

-- where the walk stands after the first word, and after the first and the words xs
abbrev started_at : Text → Walk
started_at w = record {
  held = record { rows = []; pending = Some (codes "command", w ∷ []); skip = 0 };
  waiting = idle;
  position = 2;
  is_trailing = false;
  stopped = None;
}

abbrev first_row : Text → Row
first_row w = record { id = codes "command"; values = w ∷ []; count = None; source = Some CommandLine; reading = reading_by first_rule }

abbrev rest_row : List Text → Row
rest_row xs = record { id = codes "rest"; values = xs; count = None; source = Some CommandLine; reading = reading_by rest_rule }

abbrev resting : Text → List Text → Walk
resting w xs = record {
  held = record { rows = first_row w ∷ []; pending = Some (codes "rest", xs); skip = 0 };
  waiting = positional;
  position = 2;
  is_trailing = false;
  stopped = None;
}

-- what a plain word does not have
no_dash : (w : Text) → is_plain_word w ≡ true → strip_byte 45 w ≡ None
no_dash [] h = refl
no_dash (x ∷ xs) h = grind (arith, nat_tests)

no_dashes : (w : Text) → is_plain_word w ≡ true → bytes_eq w (45 ∷ 45 ∷ []) ≡ false
no_dashes [] h = refl
no_dashes (x ∷ xs) h = grind (arith, nat_tests)

-- the steps of the walk
walked_first : (w : Text) → strip_byte 45 w ≡ None → bytes_eq w (45 ∷ 45 ∷ []) ≡ false → walked top.rules [] (walk_from nothing_held) w ≡ started_at w
unfolding clap_on_literals walked
walked_first w a b = rw (b, a, a) refl

walked_second : (w x : Text) → strip_byte 45 x ≡ None → bytes_eq x (45 ∷ 45 ∷ []) ≡ false → walked top.rules [] (started_at w) x ≡ resting w (x ∷ [])
unfolding clap_on_literals walked
walked_second w x a b = rw (b, a, a) refl

walked_next : (w : Text) (xs : List Text) (x : Text) → strip_byte 45 x ≡ None → bytes_eq x (45 ∷ 45 ∷ []) ≡ false → walked top.rules [] (resting w xs) x ≡ resting w (xs ++ x ∷ [])
unfolding clap_on_literals walked
walked_next w xs x a b = rw (b, a, a) refl

-- and what is wrong in each
turn_first : (w : Text) → strip_byte 45 w ≡ None → bytes_eq w (45 ∷ 45 ∷ []) ≡ false → turn_fault top [] (walk_from nothing_held) w ≡ []
unfolding clap_on_literals
turn_first w a b = rw (b, a, a) refl

turn_second : (w x : Text) → strip_byte 45 x ≡ None → bytes_eq x (45 ∷ 45 ∷ []) ≡ false → turn_fault top [] (started_at w) x ≡ []
unfolding clap_on_literals
turn_second w x a b = rw (b, a, a) refl

turn_next : (w : Text) (xs : List Text) (x : Text) → strip_byte 45 x ≡ None → bytes_eq x (45 ∷ 45 ∷ []) ≡ false → turn_fault top [] (resting w xs) x ≡ []
unfolding clap_on_literals
turn_next w xs x a b = rw (b, a, a) refl

-- the whole walk

walked_rest : (w : Text) (xs ws : List Text) → ArePlainWords ws → fold (walked top.rules []) (resting w xs) ws ≡ resting w (xs ++ ws)
walked_rest w xs [] plain = ap (resting w) (sym (append-nil xs))
walked_rest w xs (x ∷ ws) plain =
    let (here, more) = and_parts (is_plain_word x) (list_all is_plain_word ws) plain in
    rw (walked_next w xs x (no_dash x here) (no_dashes x here)) (walked_rest w (xs ++ x ∷ []) ws more ∙ ap (resting w) (append_assoc xs (x ∷ []) ws))

faults_rest : (w : Text) (xs ws : List Text) → ArePlainWords ws → walk_fault top [] (resting w xs) ws ≡ []
unfolding walk_fault
faults_rest w xs [] plain = refl
faults_rest w xs (x ∷ ws) plain =
    let (here, more) = and_parts (is_plain_word x) (list_all is_plain_word ws) plain in
    rw (turn_next w xs x (no_dash x here) (no_dashes x here), walked_next w xs x (no_dash x here) (no_dashes x here)) (faults_rest w (xs ++ x ∷ []) ws more)

-- any text passes
any_text : (xs : List Text) → values_fault (with_index 2 (filled rest_rule)) xs ≡ []
any_text [] = refl
any_text (x ∷ xs) = any_text xs

-- what is left once the words are over, after one word
last_settle_one : (w : Text) → settle_fault top.rules false (started_at w).held ≡ []
last_settle_one w = refl

last_defaults_one : (w : Text) → defaults_fault (settled top.rules (started_at w).held).rows top.rules ≡ []
unfolding defaults_fault
last_defaults_one w = refl

last_check_one : (w : Text) → check_fault top (finished top.rules (started_at w).held) false ≡ []
last_check_one w = refl

-- and after more
fits_range : (n : ℕ) → n ≤ usize_max → range_kinds 0 usize_max n ≡ []
fits_range n fits =
    let low : nat_lt n 0 ≡ false = grind (arith, nat_tests) in
    let high : nat_lt usize_max n ≡ false = grind (arith, nat_tests) in
    rw (low, high) refl

last_settle : (w x : Text) (xs : List Text) → length (x ∷ xs) ≤ usize_max → settle_fault top.rules false (resting w (x ∷ xs)).held ≡ []
last_settle w x xs fits = rw (fits_range (length (x ∷ xs)) fits, any_text (x ∷ xs)) refl

last_defaults : (w x : Text) (xs : List Text) → defaults_fault (settled top.rules (resting w (x ∷ xs)).held).rows top.rules ≡ []
unfolding defaults_fault
last_defaults w x xs = refl

last_check : (w x : Text) (xs : List Text) → check_fault top (finished top.rules (resting w (x ∷ xs)).held) false ≡ []
last_check w x xs = refl

-- one word, and more
faults_one : (w : Text) → is_plain_word w ≡ true → walk_fault top [] (walk_from nothing_held) (w ∷ []) ≡ []
unfolding walk_fault
faults_one w plain = rw (turn_first w (no_dash w plain) (no_dashes w plain)) refl

faultless_one : (w : Text) → is_plain_word w ≡ true → fault_of dp (w ∷ []) ≡ []
faultless_one w plain =
    let walk_is : walk top.rules [] nothing_held (w ∷ []) ≡ started_at w = walked_first w (no_dash w plain) (no_dashes w plain) in
    rw (walk_is, faults_one w plain, last_settle_one w, last_defaults_one w, last_check_one w) refl

faults_more : (w x : Text) (xs : List Text) → is_plain_word w ≡ true → is_plain_word x ≡ true → ArePlainWords xs → walk_fault top [] (walk_from nothing_held) (w ∷ x ∷ xs) ≡ []
unfolding walk_fault
faults_more w x xs first second rest =
    rw (
      turn_first w (no_dash w first) (no_dashes w first),
      walked_first w (no_dash w first) (no_dashes w first),
      turn_second w x (no_dash x second) (no_dashes x second),
      walked_second w x (no_dash x second) (no_dashes x second),
    ) (faults_rest w (x ∷ []) xs rest)

walk_more : (w x : Text) (xs : List Text) → is_plain_word w ≡ true → is_plain_word x ≡ true → ArePlainWords xs → walk top.rules [] nothing_held (w ∷ x ∷ xs) ≡ resting w (x ∷ xs)
walk_more w x xs first second rest =
    rw (walked_first w (no_dash w first) (no_dashes w first), walked_second w x (no_dash x second) (no_dashes x second)) (walked_rest w (x ∷ []) xs rest)

faultless_more : (w x : Text) (xs : List Text) → is_plain_word w ≡ true → is_plain_word x ≡ true → ArePlainWords xs → length (x ∷ xs) ≤ usize_max → fault_of dp (w ∷ x ∷ xs) ≡ []
faultless_more w x xs first second rest fits =
    rw (walk_more w x xs first second rest, faults_more w x xs first second rest, last_settle w x xs fits, last_defaults w x xs, last_check w x xs) refl

-- Plain words are taken as they stand.
pub takes_plain : (words : List Text) → list_all is_plain_word words ≡ true → 0 < length words → length words ≤ usize_max → read_words words ≡ Some words
unfolding read_words
takes_plain [] plain some fits = absurd (omega arith)
takes_plain (w ∷ []) plain some fits =
    let (here, more) = and_parts (is_plain_word w) (list_all is_plain_word []) plain in
    let walk_is : walk top.rules [] nothing_held (w ∷ []) ≡ started_at w = walked_first w (no_dash w here) (no_dashes w here) in
    rw (faultless_one w here, walk_is) refl
takes_plain (w ∷ x ∷ xs) plain some fits =
    let (here, more) = and_parts (is_plain_word w) (list_all is_plain_word (x ∷ xs)) plain in
    let (second, rest) = and_parts (is_plain_word x) (list_all is_plain_word xs) more in
    rw (faultless_more w x xs here second rest (omega arith), walk_more w x xs here second rest) refl

-- and no word is no command line
pub takes_none : read_words [] ≡ None
unfolding read_words clap_on_literals
takes_none = refl

-- so the command is that of the words as they stand
pub takes_command : (words : List Text) → ArePlainWords words → length words ≤ usize_max → command_in words ≡ command_by words
unfolding command_in command_by
takes_command [] plain fits = ap (option_and_then command_by) takes_none ∙ none_by
  where
    none_by : None ≡ command_by []
    none_by = refl
takes_command (w ∷ ws) plain fits = ap (option_and_then command_by) (takes_plain (w ∷ ws) plain (omega arith) fits)
