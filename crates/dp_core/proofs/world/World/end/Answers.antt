use Rattle.std.proofs.Common.{ap, rules}
use Rattle.dp_core.specs.WorldState.{WorldState}
use Rattle.dp_core.proofs.Tells.{machine-shown}
use Rattle.dp_core.proofs.world.World.end.Goals as goal

pub returns : goal.returns
returns c = λ es r k m at.
    machine-shown es c.args.self c.self.inside.computers c.ends.result k m (ap (λ (w : WorldState). w.computers) c.self.view_is) (search rules) c.ends.ensures r at
