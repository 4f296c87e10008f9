-- A line of more parts than any verb has.
use Rattle.std.proofs.Common.{◌≡◌, ℕ, ◌<◌, List, [], ◌∷◌, length, refl, arith, Option, Some, None, Ok, Err, Result}
use Rattle.dp_script.specs.declared.command.Verb.{Verb}
use Rattle.dp_script.specs.declared.command.Verb.TheVariants.{Usual, Order, Skew, Say, Single, Exchange}
use Rattle.dp_script.specs.declared.command.Exchange.TheVariants.{Tell, Lie, Junk}
use Rattle.dp_script.specs.declared.command.Phrase.{Phrase}
use Rattle.dp_script.specs.declared.fault.ScriptKind.{ScriptKind}
use Rattle.dp_script.specs.declared.fault.ScriptKind.TheVariants as kind
use Rattle.std.specs.Prelude.{Bool, true, false, nat_le, if◌then◌else◌}
use Rattle.dp_text.specs.Parts.{parts_of}
use Rattle.dp_script.specs.Chains.{◌>>=◌, or_fault}
use Rattle.dp_script.specs.Commands.{verb_of, whole_of, command_of, exchange_of, message_of, phrase_of_parts, phrase_of}

-- no verb has five arguments or more
no_command : (verb : Verb) (a b c d e : List ℕ) (more : List (List ℕ)) → command_of verb (a ∷ b ∷ c ∷ d ∷ e ∷ more) ≡ Err kind.Verb
unfolding command_of exchange_of message_of
no_command Usual a b c d e more = refl
no_command Order a b c d e more = refl
no_command (Exchange Tell) a b c d e more = refl
no_command (Single verb) a b c d e more = refl
no_command Skew a b c d e more = refl
no_command Say a b c d e more = refl
no_command (Exchange Lie) a b c d e more = refl
no_command (Exchange Junk) a b c d e more = refl

pub too_many_parts : (parts : List (List ℕ)) → 6 < length parts → phrase_of_parts parts ≡ Err kind.Verb
unfolding phrase_of_parts
too_many_parts [] many = absurd (omega arith)
too_many_parts (cycle ∷ []) many = absurd (omega arith)
too_many_parts (cycle ∷ word ∷ []) many = absurd (omega arith)
too_many_parts (cycle ∷ word ∷ a ∷ []) many = absurd (omega arith)
too_many_parts (cycle ∷ word ∷ a ∷ b ∷ []) many = absurd (omega arith)
too_many_parts (cycle ∷ word ∷ a ∷ b ∷ c ∷ []) many = absurd (omega arith)
too_many_parts (cycle ∷ word ∷ a ∷ b ∷ c ∷ d ∷ []) many = absurd (omega arith)
too_many_parts (cycle ∷ word ∷ a ∷ b ∷ c ∷ d ∷ e ∷ more) many = by_verb (verb_of word)
  where
    by_verb : (verb : Option Verb) → ◌≡◌ {A = Result Phrase ScriptKind} (or_fault verb kind.Verb >>= λ verb. (command_of verb (a ∷ b ∷ c ∷ d ∷ e ∷ more) >>= λ command. (whole_of cycle >>= λ cycle. Ok (record { cycle = cycle; command = command })))) (Err kind.Verb)
    by_verb None = refl
    by_verb (Some verb) = rw (no_command verb a b c d e more) refl

by_length : (short : Bool) (phrase : Result Phrase ScriptKind) → phrase ≡ Err kind.Verb → (if short then phrase else Err kind.Verb) ≡ Err kind.Verb
by_length true phrase e = e
by_length false phrase e = refl

pub too_many : (line : List ℕ) → 6 < length (parts_of line) → phrase_of line ≡ Err kind.Verb
unfolding phrase_of
too_many line many = by_length (nat_le (length line) 192) (phrase_of_parts (parts_of line)) (too_many_parts (parts_of line) many)
