use Rattle.std.proofs.Common.{ap, arith}
use Rattle.dp_core.specs.WorldState.{WorldState}
use Rattle.dp_core.proofs.Worlds.{mode-shown}
use Rattle.dp_core.proofs.world.World.modes.Goals as goal

pub returns : goal.returns
returns c = λ es r.
    let w = c.args.self.now in
    let items = c.self.inside.computers in
    let same = ap (λ (w : WorldState). w.computers) c.self.view_is in
    let three = c.self.told in
    rw (
      mode-shown es w items 0 c.index-self-0.result c.mode.result same (omega arith) c.index-self-0.is c.mode.ensures r,
      mode-shown es w items 1 c.index-self-1.result c.mode-2.result same (omega arith) c.index-self-1.is c.mode-2.ensures r,
      mode-shown es w items 2 c.index-self-2.result c.mode-3.result same (omega arith) c.index-self-2.is c.mode-3.ensures r,
    )
