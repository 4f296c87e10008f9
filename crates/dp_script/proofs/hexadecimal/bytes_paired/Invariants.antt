use Rattle.std.proofs.Common.{◌≡◌, ◌≤◌, ◌+◌, ◌*◌, ◌++◌, true, length}
use Rattle.std.specs.List.{list_all}
use Rattle.dp_script.specs.Hexadecimal.{is_lower_digit, paired}
use Rattle.dp_script.proofs.hexadecimal.bytes_paired.Given as goal

abbrev pub invariant-loop-rest : goal.invariant-loop-rest
invariant-loop-rest l = record {
  digits : list_all is_lower_digit l.rest ≡ true;
  room : 2 * length l.bytes.items + length l.rest ≤ 128;
  bytes : l.bytes.items ++ paired l.rest ≡ paired l.digits;
}

abbrev pub decreases-loop-rest : goal.decreases-loop-rest
decreases-loop-rest l = length l.rest
