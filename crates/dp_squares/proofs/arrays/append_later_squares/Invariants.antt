use Rattle.std.proofs.Common.{◌≡◌, ◌+◌, ◌*◌, ◌≤◌, ◌++◌, take}
use Rattle.std.specs.List.{flat_map}
use Rattle.arrayvec.specs.ArrayVec.{array_vec_len}
use Rattle.dp_plant.specs.PlantFile.{square_row}
use Rattle.dp_squares.specs.Text.{later, numbers_text}
use Rattle.dp_squares.proofs.arrays.append_later_squares.Given as goal

abbrev pub invariant-loop-square : goal.invariant-loop-square
invariant-loop-square g l = record {
  text : l.into.items ≡ l.initial.into.items ++ flat_map (later (λ q. numbers_text (square_row q))) (take l.square-index l.squares);
  room : array_vec_len l.into ≤ array_vec_len l.initial.into + 136 * l.square-index;
}
