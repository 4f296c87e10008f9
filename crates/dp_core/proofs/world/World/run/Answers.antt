use Rattle.std.proofs.Common.{refl}
use Rattle.dp_exchange.specs.ComputerState.{after_run, run_answer}
use Rattle.dp_core.specs.WorldState.{after}
use Rattle.dp_core.specs.declared.event.Event.TheVariants.{Run}
use Rattle.dp_core.proofs.InStep.{run-in_step, run-plant}
use Rattle.dp_core.proofs.OneComputer.{one-more, one-world, one-answered}
use Rattle.dp_core.proofs.Worlds.{run-answer}
use Rattle.dp_core.proofs.world.World.run.Goals as goal

pub invariant_of-self : goal.invariant_of-self
invariant_of-self c =
    one-world c.self.inside c.args.c c.index-self-c.result c.run.new.self after_run c.self.invariant c.requires c.index-self-c.is c.run.ensures.new
    (λ x s. run-in_step c.self.inside.cycles_begun x s) run-plant

pub returns-clause-represents : goal.returns-clause-represents
unfolding after
returns-clause-represents c = λ es r.
    one-more c.self.inside c.args.c c.index-self-c.result c.run.new.self after_run c.self.invariant c.requires c.index-self-c.is c.run.ensures.new
    es c.args.self.now (Run c.args.c) c.self.view_is refl c.requires r

pub returns-clause-answer : goal.returns-clause-answer
returns-clause-answer c = λ es r.
    run-answer es c.args.self.now c.args.c c.run.result c.requires r
    (one-answered c.self.inside c.args.self.now c.args.c c.index-self-c.result run_answer c.run.result c.self.invariant c.requires c.self.view_is c.index-self-c.is c.run.ensures.answer)
