-- The text of one cycle.
use Rattle.std.specs.Prelude.{ℕ, List, ◌++◌}
use Rattle.dp_report.specs.declared.block.Block.{Block}
use Rattle.dp_report.specs.Alarms.{alarm_text}
use Rattle.dp_report.specs.Text.{cycle_line, thruster_lines}

-- the line of the cycle, the line of each thruster, and the lines of the alarms
unfoldable pub block_text : Block → List ℕ
block_text b =
    cycle_line b.cycle b.modes ++ (thruster_lines b.ballots.items b.held.items
    ++ alarm_text b.alarms)
