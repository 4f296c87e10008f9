use Rattle.std.proofs.Common.{refl}
use Rattle.dp_exchange.specs.ComputerState.{after_restart}
use Rattle.dp_core.specs.WorldState.{after}
use Rattle.dp_core.specs.declared.event.Event.TheVariants.{Restart}
use Rattle.dp_core.proofs.InStep.{restart-in_step, restart-plant}
use Rattle.dp_core.proofs.OneComputer.{one-more, one-world}
use Rattle.dp_core.proofs.world.World.restart.Goals as goal

pub invariant_of-self : goal.invariant_of-self
invariant_of-self c =
    one-world c.self.inside c.args.c c.index-self-c.result c.restart.new.self (λ x. after_restart x c.self.inside.cycles_begun) c.self.invariant c.requires c.index-self-c.is c.restart.ensures
    (λ x s. restart-in_step c.self.inside.cycles_begun x) (λ x. restart-plant x c.self.inside.cycles_begun)

pub returns-clause-represents : goal.returns-clause-represents
unfolding after
returns-clause-represents c = λ es r.
    one-more c.self.inside c.args.c c.index-self-c.result c.restart.new.self (λ x. after_restart x c.self.inside.cycles_begun) c.self.invariant c.requires c.index-self-c.is c.restart.ensures
    es c.args.self.now (Restart c.args.c) c.self.view_is refl c.requires r
