-- What a computer warns of in this cycle.
use Rattle.std.specs.Prelude.{ℕ, suc, List, ◌==◌, Option, Some, None, if◌then◌else◌}
use Rattle.dp_plant.specs.declared.alarms.Alarms.{Alarms}
use Rattle.dp_machine.specs.declared.issue.Issue.{Issue}
use Rattle.dp_core.specs.Moment.{Moment}
use Rattle.dp_core.specs.Mode.{cycles_begun}
use Rattle.dp_core.specs.Trajectory.{last_issue}

-- what an issue warns of, where it is of the last of so many cycles
unfoldable pub alarms_in : ℕ → Option Issue → Option Alarms
alarms_in cycles None = None
alarms_in cycles (Some x) = if cycles == suc x.cycle then Some x.alarms else None

-- what the last issue of c warns of, where it is of this cycle
unfoldable pub cycle_alarms : ℕ → List Moment → Option Alarms
cycle_alarms c h = alarms_in (cycles_begun h) (last_issue c h)
