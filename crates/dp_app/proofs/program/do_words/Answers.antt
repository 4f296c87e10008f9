use Rattle.std.proofs.Common.{Err, None, Some, refl, subst}
use Rattle.dp_shell.specs.Names.{texts_of}
use Rattle.dp_app.specs.declared.command_line.WordsFault.{WordsFault}
use Rattle.dp_app.specs.declared.fault.Fault.TheVariants.{Memory, Usage}
use Rattle.dp_app.specs.Words.{GivesCommand, command_in, shown_command}
use Rattle.dp_app.proofs.Running.{memory_first, refused_runs, runs_as, usage_first}
use Rattle.dp_app.proofs.program.do_words.Goals as goal

pub returns-in-Ok : goal.returns-in-Ok
returns-in-Ok g c =
    let S = g.F.Shelf in
    let K = g.K.Sink in
    runs_as S.files S.apart S.faults K.taken K.faults (command_in (texts_of c.args.words.now)) (Some (shown_command c.in-Ok.command)) c.args.shelf.now c.do_command.new.shelf
    c.args.out.now c.do_command.new.out c.do_command.result c.in-Ok.ensures c.do_command.ensures

pub returns-in-Err-Usage : goal.returns-in-Err-Usage
returns-in-Err-Usage g c =
    let S = g.F.Shelf in
    let K = g.K.Sink in
    runs_as S.files S.apart S.faults K.taken K.faults (command_in (texts_of c.args.words.now)) None c.args.shelf.now c.args.shelf.now
    c.args.out.now c.announce.new.out c.announce.result
    (subst (λ (e : WordsFault). GivesCommand (Err e) (command_in (texts_of c.args.words.now))) c.in-Err-Usage.field-0-is c.in-Err-Usage.ensures)
    (refused_runs S.files S.apart S.faults K.taken K.faults None c.args.shelf.now c.args.shelf.now c.args.out.now c.announce.new.out c.announce.result Usage Usage refl
    (usage_first S.files S.apart S.faults c.args.shelf.now) c.announce.ensures.ends c.announce.ensures.write)

pub returns-in-Err-Memory : goal.returns-in-Err-Memory
returns-in-Err-Memory g c =
    let S = g.F.Shelf in
    let K = g.K.Sink in
    refused_runs S.files S.apart S.faults K.taken K.faults (command_in (texts_of c.args.words.now)) c.args.shelf.now c.args.shelf.now c.args.out.now c.announce-in-Err-Memory.new.out
    c.announce-in-Err-Memory.result Memory Memory refl (memory_first S.files S.apart S.faults (command_in (texts_of c.args.words.now)) c.args.shelf.now) c.announce-in-Err-Memory.ensures.ends
    c.announce-in-Err-Memory.ensures.write
