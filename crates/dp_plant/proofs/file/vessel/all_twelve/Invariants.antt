use Rattle.std.proofs.Common.{◌≡◌, drop, length, take, ◌++◌}
use Rattle.dp_plant.proofs.file.vessel.all_twelve.Given as goal

abbrev pub invariant-loop-i : goal.invariant-loop-i
invariant-loop-i l = (length l.all ≡ 12) × (take l.i l.all ++ drop l.i l.rows ≡ l.rows)
