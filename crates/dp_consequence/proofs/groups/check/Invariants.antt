use Rattle.std.proofs.Common.{◌≡◌, ◌≤◌, length}
use Rattle.std.specs.List.{filter, range_with_len}
use Rattle.dp_consequence.specs.{is_unsurvived}
use Rattle.dp_consequence.proofs.groups.check.Given as goal

abbrev pub invariant-loop-group : goal.invariant-loop-group
invariant-loop-group l = record {
  listed : l.groups.items ≡ filter (is_unsurvived l.plant l.lost l.mean) (range_with_len 0 l.group);
  few : length l.groups.items ≤ l.group;
}
