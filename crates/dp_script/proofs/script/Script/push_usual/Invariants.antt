use Rattle.std.proofs.Common.{◌≡◌, ◌≤◌, ◌++◌, drop}
use Rattle.std.specs.List.{All}
use Rattle.dp_script.specs.declared.timed_act.TimedAct.{TimedAct}
use Rattle.dp_script.specs.Acts.{usual_acts}
use Rattle.dp_script.specs.TimedActs.{timed_acts_with}
use Rattle.dp_script.proofs.script.Script.push_usual.Given as goal

abbrev pub invariant-loop-i : goal.invariant-loop-i
invariant-loop-i l = record {
  bound : l.i ≤ 6;
  order : All (λ (timed_act : TimedAct). timed_act.cycle ≤ l.cycle) l.self;
  pushed : l.self ++ timed_acts_with l.cycle (drop l.i usual_acts) ≡ l.fn.self ++ timed_acts_with l.cycle usual_acts;
}
