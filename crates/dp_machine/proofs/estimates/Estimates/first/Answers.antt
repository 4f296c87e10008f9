use Rattle.std.proofs.Common.{rules}
use Rattle.dp_machine.proofs.Certified.{own_rest}
use Rattle.dp_machine.proofs.estimates.Estimates.first.Goals as goal

pub returns-clause-within : goal.returns-clause-within
returns-clause-within c = record {
  count = search rules;
  plane = rw c.rest.ensures (own_rest c.args.plant.now c.args.accepted.now c.requires.accepted c.rest_is_inside.ensures c.args.plant.now.start.at c.requires.plant.within.start.place);
  yaw = search rules;
  heading = search rules;
  wind = search rules;
  lost = search rules;
}
