use Rattle.std.proofs.Math.Facts.{to_z-of_z}
use Rattle.dp_core.specs.declared.event.Event.TheVariants.{Say}
use Rattle.dp_core.proofs.Worlds.{plant-kept, say-answer, say-said, went-on}
use Rattle.dp_core.proofs.world.World.say.Goals as goal

pub returns-clause-represents : goal.returns-clause-represents
returns-clause-represents c = λ es r.
    let new = say-said c.args.self.now _ c.args.from c.args.voter c.args.cycle _ c.args.force (to_z-of_z c.ranges.force) c.deliver.ensures.new in
    went-on es c.args.self.now _ (Say c.args.from c.args.voter c.args.cycle c.args.force) new (c.requires.computer, c.requires.voter) r

pub returns-clause-answer : goal.returns-clause-answer
returns-clause-answer c = λ es r.
    say-answer es c.args.self.now c.args.from c.args.voter c.args.cycle _ c.args.force c.deliver.result c.requires.computer c.requires.voter (to_z-of_z c.ranges.force) r c.deliver.ensures.answer

pub returns-clause-plant : goal.returns-clause-plant
returns-clause-plant c =
    plant-kept c.args.self.now _ _ c.deliver.ensures.new
