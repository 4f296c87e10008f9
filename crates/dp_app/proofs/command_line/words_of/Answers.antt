use Rattle.std.proofs.Common.{subst, ap, ◌∙◌, length, ◌≡◌, ◌≤◌, arith}
use Rattle.std.proofs.lemmas.List.{length-map}
use Rattle.clap.specs.Lexer.{usize_max}
use Rattle.dp_shell.specs.Names.{texts_of}
use Rattle.dp_app.specs.CommandLine.{GivesWords, read_words}
use Rattle.dp_app.proofs.PlainWords.{takes_plain, takes_none}
use Rattle.dp_app.proofs.command_line.words_of.Goals as goal

pub returns-clause-plain : goal.returns-clause-plain
returns-clause-plain c = λ some plain.
    let same : length (texts_of c.args.words.now) ≡ length c.args.words.now = simp length-map in
    let fits : length c.args.words.now ≤ usize_max = omega arith in
    subst (GivesWords c.read.result) (takes_plain (texts_of c.args.words.now) plain (omega arith) (omega arith)) c.read.ensures

pub returns-clause-none : goal.returns-clause-none
returns-clause-none c = λ none. subst (GivesWords c.read.result) (ap (λ ws. read_words (texts_of ws)) none ∙ takes_none) c.read.ensures
