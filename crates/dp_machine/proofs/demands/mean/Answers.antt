use Rattle.dp_machine.proofs.RunningDemands.{surge_small, sway_small, yaw_small}
use Rattle.dp_machine.proofs.demands.mean.Goals as goal

pub mean_by-requires-clause-surge : goal.mean_by-requires-clause-surge
mean_by-requires-clause-surge c = surge_small c.ring.inside.ring c.ring.inside.sums c.ring.invariant

pub mean_by-requires-clause-sway : goal.mean_by-requires-clause-sway
mean_by-requires-clause-sway c = sway_small c.ring.inside.ring c.ring.inside.sums c.ring.invariant

pub mean_by-requires-clause-yaw : goal.mean_by-requires-clause-yaw
mean_by-requires-clause-yaw c = yaw_small c.ring.inside.ring c.ring.inside.sums c.ring.invariant
