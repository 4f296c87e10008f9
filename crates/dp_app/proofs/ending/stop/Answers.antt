use Rattle.std.proofs.Common.{inl}
use Rattle.dp_app.proofs.Endings.{memory_answers, memory_written}
use Rattle.dp_app.specs.declared.fault.Fault.TheVariants.{Memory}
use Rattle.dp_app.proofs.ending.stop.Goals as goal

pub returns-in-Failed-clause-written : goal.returns-in-Failed-clause-written
returns-in-Failed-clause-written g c = λ start text cut. inl cut

pub returns-in-Memory-clause-answers : goal.returns-in-Memory-clause-answers
returns-in-Memory-clause-answers g c = memory_answers _ _ _ c.announce.result c.announce.ensures.ends

pub returns-in-Memory-clause-written : goal.returns-in-Memory-clause-written
returns-in-Memory-clause-written g c = λ start text cut.
    memory_written Memory start (g.K.Sink.taken c.args.out.now) (g.K.Sink.taken c.announce.new.out) text c.announce.result cut c.announce.ensures.ends
