use Rattle.std.proofs.Common.{◌≡◌, drop}
use Rattle.dp_cert.specs.Ranges.{are_squares}
use Rattle.dp_cert.proofs.ranges.are_squares.Given as goal

abbrev pub invariant-loop-square : goal.invariant-loop-square
invariant-loop-square g l = are_squares (drop l.square-index l.square-items) ≡ are_squares l.squares.list.items
