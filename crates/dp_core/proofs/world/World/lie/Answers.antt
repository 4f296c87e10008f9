use Rattle.std.proofs.Common.{refl}
use Rattle.dp_exchange.specs.ComputerState.{after_offer, offer_answer, offered_by}
use Rattle.dp_core.specs.WorldState.{after}
use Rattle.dp_core.specs.declared.event.Event.TheVariants.{Lie}
use Rattle.dp_core.proofs.InStep.{offer-in_step, offer-plant}
use Rattle.dp_core.proofs.OneComputer.{one-more, one-world, one-answered}
use Rattle.dp_core.proofs.Worlds.{lie-answer}
use Rattle.dp_core.proofs.world.World.lie.Goals as goal

pub invariant_of-self : goal.invariant_of-self
invariant_of-self c =
    one-world c.self.inside c.args.to c.index-self-to.result c.offer.new.self (λ x. after_offer x c.args.from (offered_by x c.args.bytes.now)) c.self.invariant c.requires.to c.index-self-to.is c.offer.ensures.new
    (λ x s. offer-in_step c.self.inside.cycles_begun x c.args.from (offered_by x c.args.bytes.now) s) (λ x. offer-plant x c.args.from (offered_by x c.args.bytes.now))

pub returns-clause-represents : goal.returns-clause-represents
unfolding after
returns-clause-represents c = λ es r.
    one-more c.self.inside c.args.to c.index-self-to.result c.offer.new.self (λ x. after_offer x c.args.from (offered_by x c.args.bytes.now)) c.self.invariant c.requires.to c.index-self-to.is c.offer.ensures.new
    es c.args.self.now (Lie c.args.from c.args.to (record { items = c.args.bytes.now })) c.self.view_is refl (c.requires.from, (c.requires.to, c.requires.two)) r

pub returns-clause-answer : goal.returns-clause-answer
returns-clause-answer c = λ es r.
    lie-answer es c.args.self.now c.args.from c.args.to c.args.bytes.now c.offer.result c.requires.to r
    (one-answered c.self.inside c.args.self.now c.args.to c.index-self-to.result (λ x. offer_answer x c.args.from (offered_by x c.args.bytes.now)) c.offer.result c.self.invariant c.requires.to c.self.view_is c.index-self-to.is c.offer.ensures.answer)
