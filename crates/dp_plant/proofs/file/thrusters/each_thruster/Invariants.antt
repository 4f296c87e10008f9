use Rattle.std.proofs.Common.{◌≡◌, drop, length, map}
use Rattle.toml.specs.View.{view}
use Rattle.dp_plant.specs.Keys.{each_from}
use Rattle.dp_plant.specs.PlantFile.{thruster_at}
use Rattle.dp_plant.proofs.Tables.{with_front}
use Rattle.dp_plant.proofs.file.thrusters.each_thruster.Given as goal

abbrev pub invariant-loop-i : goal.invariant-loop-i
invariant-loop-i l = (length l.thrusters.items ≡ l.i)
    × (with_front l.thrusters.items (each_from (thruster_at l.groups) l.i (map view (drop l.i l.tables))) ≡ each_from (thruster_at l.groups) 0 (map view l.tables))
