use Rattle.std.proofs.Common.{◌∙◌, ap, length}
use Rattle.std.specs.Prelude.{slice_get}
use Rattle.dp_core.specs.WorldState.{last_of}
use Rattle.dp_core.specs.WorldView.{world_of}
use Rattle.dp_core.proofs.Worlds.{sent-count, sent-view}
use Rattle.dp_core.proofs.world.World.order_all.Goals as goal

pub invariant_of-self : goal.invariant_of-self
invariant_of-self c =
    let i = c.self.inside in
    record {
      three = c.self.invariant.three;
      voters = ap length c.order_between.ensures ∙ (sent-count c.args.from (last_of (slice_get i.computers c.args.from)) i.voters.items ∙ c.self.invariant.voters);
      in_step = c.self.invariant.in_step;
      of_plant = c.self.invariant.of_plant;
      bounded = c.self.invariant.bounded;
    }

pub returns-clause-represents : goal.returns-clause-represents
returns-clause-represents c = λ es r.
    let i = c.self.inside in
    sent-view es (world_of i) c.args.self.now c.args.from c.order_between.new.voters.items c.self.view_is c.requires c.order_between.ensures r
