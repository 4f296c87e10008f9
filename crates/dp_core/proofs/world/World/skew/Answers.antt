use Rattle.std.proofs.Common.{refl}
use Rattle.dp_exchange.specs.ComputerState.{after_skew, skew_answer}
use Rattle.dp_core.specs.WorldState.{after}
use Rattle.dp_core.specs.declared.event.Event.TheVariants.{Skew}
use Rattle.dp_core.proofs.InStep.{skew-in_step, skew-plant}
use Rattle.dp_core.proofs.OneComputer.{one-more, one-world, one-answered}
use Rattle.dp_core.proofs.Worlds.{skew-answer}
use Rattle.dp_core.proofs.world.World.skew.Goals as goal

pub invariant_of-self : goal.invariant_of-self
invariant_of-self c =
    one-world c.self.inside c.args.c c.index-self-c.result c.skew.new.self (λ x. after_skew x c.args.at) c.self.invariant c.requires.computer c.index-self-c.is c.skew.ensures.new
    (λ x s. skew-in_step c.self.inside.cycles_begun x c.args.at s) (λ x. skew-plant x c.args.at)

pub returns-clause-represents : goal.returns-clause-represents
unfolding after
returns-clause-represents c = λ es r.
    one-more c.self.inside c.args.c c.index-self-c.result c.skew.new.self (λ x. after_skew x c.args.at) c.self.invariant c.requires.computer c.index-self-c.is c.skew.ensures.new
    es c.args.self.now (Skew c.args.c c.args.at) c.self.view_is refl (c.requires.computer, c.requires.place) r

pub returns-clause-answer : goal.returns-clause-answer
returns-clause-answer c = λ es r.
    skew-answer es c.args.self.now c.args.c c.skew.result c.requires.computer r
    (one-answered c.self.inside c.args.self.now c.args.c c.index-self-c.result skew_answer c.skew.result c.self.invariant c.requires.computer c.self.view_is c.index-self-c.is c.skew.ensures.answer)
