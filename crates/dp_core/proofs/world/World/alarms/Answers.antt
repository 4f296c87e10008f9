use Rattle.std.proofs.Common.{◌∙◌, arith}
use Rattle.dp_core.proofs.Worlds.{alarms-represent}
use Rattle.dp_core.proofs.world.World.alarms.Goals as goal

pub returns : goal.returns
returns c = λ es r.
    let w = c.args.self.now in
    rw (
      c.alarms_of.ensures ∙ alarms-represent es w 0 (omega arith) r,
      c.alarms_of-2.ensures ∙ alarms-represent es w 1 (omega arith) r,
      c.alarms_of-3.ensures ∙ alarms-represent es w 2 (omega arith) r,
    )
