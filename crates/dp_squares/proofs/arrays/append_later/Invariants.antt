use Rattle.std.proofs.Common.{◌≡◌, ◌+◌, ◌*◌, ◌≤◌, ◌++◌, take}
use Rattle.std.specs.Fmt.{signed_decimal}
use Rattle.std.specs.List.{flat_map}
use Rattle.arrayvec.specs.ArrayVec.{array_vec_len}
use Rattle.dp_squares.specs.Text.{later}
use Rattle.dp_squares.proofs.arrays.append_later.Given as goal

abbrev pub invariant-loop-number : goal.invariant-loop-number
invariant-loop-number l = record {
  text : l.into.items ≡ l.initial.into.items ++ flat_map (later signed_decimal) (take l.number-index l.numbers);
  room : array_vec_len l.into ≤ array_vec_len l.initial.into + 22 * l.number-index;
}
