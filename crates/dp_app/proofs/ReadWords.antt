-- What an error of `clap` says of the words.
use Rattle.std.proofs.Common.{◌≡◌, true, false, List, [], ◌∷◌, ◌⊎◌, inl, inr, Option, Some, None, Err, refl, ap}
use Rattle.std.specs.Prelude.{IsSomeAnd}
use Rattle.clap.specs.Words.{IsAmong, Kinds, Text, fault_of, is_simple, is_simple_and_free}
use Rattle.clap.proofs.WalkLemmas.{first_value-rows, raw_values-rows}
use Rattle.std.proofs.lemmas.List.{map-append}
use Rattle.clap.proofs.OnLiterals.{clap_on_literals}
use Rattle.clap.specs.declared.error.kind.ErrorKind.{ErrorKind}
use Rattle.clap.specs.declared.error.kind.ErrorKind.TheVariants as kind
use Rattle.dp_app.specs.declared.command_line.WordsFault.{WordsFault}
use Rattle.dp_app.specs.declared.command_line.WordsFault.TheVariants as faults
use Rattle.clap.specs.Words.{Row, matches_of}
use Rattle.dp_app.specs.CommandLine.{GivesWords, words_found, dp, is_faultless, read_words}

some_kind : (k : ErrorKind) (ks : Kinds) → IsAmong k ks → is_faultless ks ≡ false
some_kind k [] h = elim h [ ]
some_kind k (x ∷ xs) h = refl

pub refuses : (words : List Text) (k : ErrorKind) (f : WordsFault) → (k ≡ kind.OutOfMemory → f ≡ faults.Memory) → ((k ≡ kind.OutOfMemory → ⊥) → f ≡ faults.Usage)
    → (k ≡ kind.OutOfMemory) ⊎ IsAmong k (fault_of dp words) → GivesWords (Err f) (read_words words)
unfolding read_words
refuses words k faults.Memory memory usage h = tt
refuses words k faults.Usage memory usage (inl full) = let bad : faults.Usage ≡ faults.Memory = memory full in cc
refuses words k faults.Usage memory usage (inr among) = rw (some_kind k (fault_of dp words) among) refl

pub some_and : {T : Type 0} (o : Option T) (x : T) → IsSomeAnd o (λ r. r ≡ x) → o ≡ Some x
some_and None x h = elim h [ ]
some_and (Some y) x h = ap Some h

pub accepts : (words : List Text) (rows : List Row) (v : List Text) → fault_of dp words ≡ [] → rows ≡ matches_of dp words → v ≡ words_found rows → read_words words ≡ Some v
unfolding read_words
accepts words rows v none same given = rw (none, given, same) refl

pub is_plain : is_simple_and_free dp ≡ true
unfolding clap_on_literals
is_plain = refl

pub is_known : is_simple dp ≡ true
unfolding clap_on_literals
is_known = refl

pub ruleset found = (first_value-rows, raw_values-rows, map-append)
