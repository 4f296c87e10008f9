use Rattle.std.proofs.Common.{refl}
use Rattle.dp_exchange.specs.ComputerState.{after_stop}
use Rattle.dp_core.specs.WorldState.{after}
use Rattle.dp_core.specs.declared.event.Event.TheVariants.{Stop}
use Rattle.dp_core.proofs.InStep.{stop-in_step, stop-plant}
use Rattle.dp_core.proofs.OneComputer.{one-more, one-world}
use Rattle.dp_core.proofs.world.World.stop.Goals as goal

pub invariant_of-self : goal.invariant_of-self
invariant_of-self c =
    one-world c.self.inside c.args.c c.index-self-c.result c.stop.new.self after_stop c.self.invariant c.requires c.index-self-c.is c.stop.ensures
    (λ x s. stop-in_step c.self.inside.cycles_begun x s) stop-plant

pub returns-clause-represents : goal.returns-clause-represents
unfolding after
returns-clause-represents c = λ es r.
    one-more c.self.inside c.args.c c.index-self-c.result c.stop.new.self after_stop c.self.invariant c.requires c.index-self-c.is c.stop.ensures
    es c.args.self.now (Stop c.args.c) c.self.view_is refl c.requires r
