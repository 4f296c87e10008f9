use Rattle.std.proofs.Common.{◌∙◌, ap, ℤ, List}
use Rattle.circular_buffer.specs.Buffer.{Buffer}
use Rattle.dp_machine.proofs.Values.{set_is}
use Rattle.dp_machine.proofs.machine.Machine.set.Goals as goal

pub returns : goal.returns
returns c = set_is c.args.self.now c.self.inside.plant c.self.inside.estimates c.of-self-inside.result c.self.inside.references c.set.new.self c.self.inside.demands.items
    c.fill.new.ring.items c.self.inside.steps c.args.s.now c.self.view_is c.of-self-inside.ensures c.set.ensures.samples
    (ap (λ (b : Buffer (List ℤ)). b.items) c.fill.ensures ∙ c.as_slice.ensures.value)
