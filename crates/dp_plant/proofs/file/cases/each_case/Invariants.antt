use Rattle.std.proofs.Common.{◌≡◌, [], drop, length, map}
use Rattle.toml.specs.View.{view}
use Rattle.dp_plant.specs.PlantFile.{cases_after}
use Rattle.dp_plant.proofs.file.cases.each_case.Given as goal

abbrev pub invariant-loop-table : goal.invariant-loop-table
invariant-loop-table l = (length l.cases.items ≡ l.table-index)
    × (cases_after l.groups l.thrusters l.cases.items (map view (drop l.table-index l.tables)) ≡ cases_after l.groups l.thrusters [] (map view l.tables))
