use Rattle.std.proofs.Common.{None, rules, ◌∙◌, ◌≡◌}
use Rattle.dp_core.specs.declared.event.Event.TheVariants.{Order}
use Rattle.dp_core.proofs.Worlds.{order-answer, order-none, order-said, order-unsaid, plant-kept, went-on}
use Rattle.dp_core.proofs.world.World.order.Goals as goal

pub returns-in_err-cycle-clause-represents : goal.returns-in_err-cycle-clause-represents
returns-in_err-cycle-clause-represents c = λ es r.
    went-on es c.args.self.now c.args.self.now (Order c.args.from c.args.voter) (order-unsaid c.args.self.now c.args.from c.args.voter c.in_err-cycle.ensures) (c.requires.computer, c.requires.voter) r

pub returns-in_err-cycle-clause-answer : goal.returns-in_err-cycle-clause-answer
returns-in_err-cycle-clause-answer c = λ es r.
    let none : c.from_residual.result ≡ None = search rules in
    none ∙ order-none es c.args.self.now c.args.from c.args.voter c.requires.computer c.in_err-cycle.ensures r

pub returns-clause-represents : goal.returns-clause-represents
returns-clause-represents c = λ es r.
    let new = order-said c.args.self.now _ c.args.from c.args.voter _ _ _ (search rules) c.in_ok-cycle.ensures c.deliver.ensures.new in
    went-on es c.args.self.now _ (Order c.args.from c.args.voter) new (c.requires.computer, c.requires.voter) r

pub returns-clause-answer : goal.returns-clause-answer
returns-clause-answer c = λ es r.
    order-answer es c.args.self.now c.args.from c.args.voter _ _ _ c.deliver.result c.requires.computer c.requires.voter (search rules) c.in_ok-cycle.ensures r c.deliver.ensures.answer

pub returns-clause-plant : goal.returns-clause-plant
returns-clause-plant c = plant-kept c.args.self.now _ _ c.deliver.ensures.new
