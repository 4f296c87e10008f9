use Rattle.std.proofs.Common.{◌≡◌, ◌⊎◌, [], ap, subst, sym, ◌∙◌}
use Rattle.clap.specs.Words.{IsAmong, HasKind, fault_of, is_simple, is_simple_and_free, matches_of, rows_of, found_of}
use Rattle.clap.specs.declared.error.kind.ErrorKind.TheVariants as kind
use Rattle.dp_shell.specs.Names.{texts_of}
use Rattle.dp_app.specs.CommandLine.{dp}
use Rattle.dp_app.proofs.ReadWords.{accepts, refuses, is_plain, is_known}
use Rattle.dp_app.proofs.command_line.read.Goals as goal

pub returns-in-Err : goal.returns-in-Err
returns-in-Err c =
    let words = texts_of c.args.words.now in
    let command_is = c.in_ok-command.ensures in
    let fails = subst (λ a. HasKind (fault_of a words) c.in-Err.error) command_is (c.in-Err.ensures.kinds (ap is_simple_and_free command_is ∙ is_plain)) in
    let why = subst (λ k. (k ≡ kind.OutOfMemory) ⊎ IsAmong k (fault_of dp words)) (sym c.kind.ensures) fails in
    refuses words c.kind.result c.refusal_of.result c.refusal_of.ensures.memory c.refusal_of.ensures.usage why

pub returns : goal.returns
returns c =
    let words = texts_of c.args.words.now in
    let rows = rows_of (found_of c.in-Ok.matches) in
    let command_is = c.in_ok-command.ensures in
    let none = subst (λ a. fault_of a words ≡ []) command_is (c.in-Ok.ensures.kinds (ap is_simple_and_free command_is ∙ is_plain)) in
    let same = subst (λ a. rows ≡ matches_of a words) command_is (c.in-Ok.ensures.matches (ap is_simple command_is ∙ is_known)).0 in
    accepts words rows (texts_of c.in_ok-all.all.items) none same c.in_ok-all.ensures
