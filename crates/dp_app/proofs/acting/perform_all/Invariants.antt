use Rattle.std.proofs.Common.{◌≡◌, List, take}
use Rattle.dp_core.specs.declared.event.Event.{Event}
use Rattle.dp_core.specs.Represents.{Represents}
use Rattle.dp_script.specs.TimedActs.{acts_at}
use Rattle.dp_app.specs.Acting.{events_of_acts}
use Rattle.dp_app.proofs.acting.perform_all.Given as goal

-- the acts so far were done
abbrev pub invariant-loop-i : goal.invariant-loop-i
invariant-loop-i l = record {
  represents : (es : List Event) → Represents es l.fn.world → Represents (events_of_acts l.plant l.cycle (take l.i (acts_at l.cycle l.script)) es) l.world;
  plant : l.world.plant ≡ l.plant;
}
