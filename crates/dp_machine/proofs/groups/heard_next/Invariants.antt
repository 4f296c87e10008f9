use Rattle.std.proofs.Common.{◌≡◌, ◌≤◌, ◌<◌, ◌^◌, ◌-◌, ◌/◌, drop}
use Rattle.dp_machine.specs.Groups.{lost_next}
use Rattle.dp_machine.proofs.groups.heard_next.Given as goal

abbrev pub decreases-loop-g : goal.decreases-loop-g
decreases-loop-g l = l.g

abbrev pub invariant-loop-g : goal.invariant-loop-g
invariant-loop-g l = record {
  few : l.g ≤ 8;
  low : l.lost < 2 ^ (8 - l.g);
  is : l.lost ≡ lost_next (l.mask / 2 ^ l.g) (drop l.g l.group);
}
