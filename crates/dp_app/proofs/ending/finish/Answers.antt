use Rattle.std.proofs.Common.{◌≡◌, [], ◌++◌, Option, subst, sym}
use Rattle.dp_app.specs.declared.fault.Fault.{Fault}
use Rattle.dp_app.specs.Outcome.{IsOfRecord, last_line, last_status}
use Rattle.dp_app.specs.Status.{IsOfInputs}
use Rattle.dp_app.specs.Written.{HasWritten, NoReadFailed}
use Rattle.dp_app.proofs.Endings.{end_announced, end_read, end_status, line_announced, line_read, line_status, line_written}
use Rattle.dp_app.proofs.ending.finish.Goals as goal

pub returns-in-Some-clause-status : goal.returns-in-Some-clause-status
returns-in-Some-clause-status g c =
    subst (λ (o : Option Fault). IsOfInputs c.announce.result → c.announce.result ≡ last_status o) (sym c.in-Some.is)
    (λ is. line_status _ _ _ _ c.announce.result c.announce.ensures.ends is)

pub returns-in-Some-clause-written : goal.returns-in-Some-clause-written
returns-in-Some-clause-written g c = λ start text a.
    let given = subst IsOfRecord c.in-Some.is c.requires in
    subst (λ (o : Option Fault). HasWritten NoReadFailed [] (text ++ last_line c.args.count o) c.announce.result start (g.K.Sink.taken c.announce.new.out)) (sym c.in-Some.is)
    (line_written c.in-Some.fault start (g.K.Sink.taken c.args.out.now) (g.K.Sink.taken c.announce.new.out) text c.announce.result given.0 a c.announce.ensures.ends)

pub returns-in-Some-clause-announced : goal.returns-in-Some-clause-announced
returns-in-Some-clause-announced g c = λ start text a.
    let given = subst IsOfRecord c.in-Some.is c.requires in
    line_announced c.in-Some.fault start (g.K.Sink.taken c.args.out.now) (g.K.Sink.taken c.announce.new.out) text c.announce.result given.1 a c.announce.ensures.ends

pub returns-in-Some-clause-read : goal.returns-in-Some-clause-read
returns-in-Some-clause-read g c =
    let given = subst IsOfRecord c.in-Some.is c.requires in
    line_read _ _ _ _ c.announce.result c.announce.ensures.ends given.0 given.1

pub returns-in-None-clause-status : goal.returns-in-None-clause-status
returns-in-None-clause-status g c =
    subst (λ (o : Option Fault). IsOfInputs c.write_last.result → c.write_last.result ≡ last_status o) (sym c.in-None.is)
    (end_status c.write_last.result c.write_last.ensures.answers)

pub returns-in-None-clause-written : goal.returns-in-None-clause-written
returns-in-None-clause-written g c = λ start text a.
    subst (λ (o : Option Fault). HasWritten NoReadFailed [] (text ++ last_line c.args.count o) c.write_last.result start (g.K.Sink.taken c.write_last.new.out)) (sym c.in-None.is)
    (rw (c.deref.ensures.0, c.end_line.ensures) at (c.write_last.ensures.written start text a))

pub returns-in-None-clause-announced : goal.returns-in-None-clause-announced
returns-in-None-clause-announced g c = λ start text a. end_announced c.write_last.result start _ c.write_last.ensures.answers

pub returns-in-None-clause-read : goal.returns-in-None-clause-read
returns-in-None-clause-read g c = end_read c.write_last.result c.write_last.ensures.answers
