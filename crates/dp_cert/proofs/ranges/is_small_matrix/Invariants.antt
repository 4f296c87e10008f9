use Rattle.std.proofs.Common.{◌≡◌, drop}
use Rattle.std.specs.List.{list_all}
use Rattle.dp_cert.specs.Ranges.{are_small}
use Rattle.dp_cert.proofs.ranges.is_small_matrix.Given as goal

abbrev pub invariant-loop-row : goal.invariant-loop-row
invariant-loop-row g l = list_all are_small (drop l.row-index l.rows) ≡ list_all are_small l.rows
