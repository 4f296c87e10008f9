use Rattle.std.proofs.Common.{refl}
use Rattle.dp_exchange.specs.ComputerState.{after_upgrade}
use Rattle.dp_core.specs.WorldState.{after}
use Rattle.dp_core.specs.declared.event.Event.TheVariants.{Upgrade}
use Rattle.dp_core.proofs.InStep.{upgrade-in_step, upgrade-plant}
use Rattle.dp_core.proofs.OneComputer.{one-more, one-world}
use Rattle.dp_core.proofs.world.World.upgrade.Goals as goal

pub invariant_of-self : goal.invariant_of-self
invariant_of-self c =
    one-world c.self.inside c.args.c c.index-self-c.result c.upgrade.new.self (λ x. after_upgrade x c.self.inside.cycles_begun) c.self.invariant c.requires c.index-self-c.is c.upgrade.ensures
    (λ x s. upgrade-in_step c.self.inside.cycles_begun x) (λ x. upgrade-plant x c.self.inside.cycles_begun)

pub returns-clause-represents : goal.returns-clause-represents
unfolding after
returns-clause-represents c = λ es r.
    one-more c.self.inside c.args.c c.index-self-c.result c.upgrade.new.self (λ x. after_upgrade x c.self.inside.cycles_begun) c.self.invariant c.requires c.index-self-c.is c.upgrade.ensures
    es c.args.self.now (Upgrade c.args.c) c.self.view_is refl c.requires r
