use Rattle.dp_machine.proofs.Certified.{own_rest}
use Rattle.dp_machine.proofs.Values.{skew_is}
use Rattle.dp_machine.proofs.machine.Machine.skew.Goals as goal

pub returns : goal.returns
returns c = skew_is c.args.self.now c.self.inside.plant c.self.inside.estimates c.self.inside.references c.self.inside.demands.items c.self.inside.steps
    c.rest-self-inside.result c.args.at c.self.view_is c.rest-self-inside.ensures

pub invariant_of-self : goal.invariant_of-self
invariant_of-self c =
    let i = c.self.invariant in
    let now = i.estimates in record {
      sound = i.sound;
      accepted = i.accepted;
      cases = i.cases;
      estimates = record {
        count = now.count;
        plane = rw c.rest-self-inside.ensures (own_rest c.self.inside.plant c.self.inside.accepted i.accepted c.rest_is_inside.ensures c.args.at c.requires);
        yaw = now.yaw;
        heading = now.heading;
        wind = now.wind;
        lost = now.lost;
      };
      references = i.references;
      demands = i.demands;
    }
