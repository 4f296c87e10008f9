use Rattle.std.proofs.Common.{inr}
use Rattle.dp_shell.proofs.Taken.{appends_then, cut_after}
use Rattle.dp_app.proofs.ending.write_last.Goals as goal

pub returns-in-Ok-clause-written : goal.returns-in-Ok-clause-written
returns-in-Ok-clause-written g c = λ start text a.
    appends_then start (g.K.Sink.taken c.args.out.now) (g.K.Sink.taken c.write_all.new.out) text c.args.last.now a c.in-Ok.ensures.ok

pub returns-in-Err-clause-answers : goal.returns-in-Err-clause-answers
returns-in-Err-clause-answers g c = inr c.stop.ensures.answers

pub returns-in-Err-clause-written : goal.returns-in-Err-clause-written
returns-in-Err-clause-written g c = λ start text a.
    c.stop.ensures.written start _
    (cut_after start (g.K.Sink.taken c.args.out.now) (g.K.Sink.taken c.write_all.new.out) text c.args.last.now a c.in-Err.ensures.err)
