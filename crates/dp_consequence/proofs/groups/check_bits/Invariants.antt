use Rattle.std.proofs.Common.{◌≡◌, map}
use Rattle.std.specs.List.{range_with_len}
use Rattle.dp_fixed.specs.{bits_of}
use Rattle.dp_consequence.specs.{is_unsurvived}
use Rattle.dp_consequence.proofs.groups.check_bits.Given as goal

abbrev pub invariant-loop-group : goal.invariant-loop-group
invariant-loop-group l = l.bits ≡ bits_of (map (is_unsurvived l.plant l.lost l.mean) (range_with_len 0 l.group))
