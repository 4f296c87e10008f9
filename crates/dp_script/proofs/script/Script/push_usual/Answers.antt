use Rattle.std.proofs.Common.{◌≤◌, arith}
use Rattle.std.proofs.lemmas.List.Elements.{All-push, All-same}
use Rattle.dp_script.specs.declared.timed_act.TimedAct.{TimedAct}
use Rattle.dp_script.specs.Acts.{usual_acts}
use Rattle.dp_script.proofs.Pushes.{one_pushed}
use Rattle.dp_script.proofs.script.Script.push_usual.Goals as goal

pub loop-i-preserved : goal.loop-i-preserved
loop-i-preserved c = record {
  bound = omega arith;
  order = All-same (λ (timed_act : TimedAct). timed_act.cycle ≤ c.args.cycle) _ _ c.in_ok-push.ensures.ok (All-push (λ (timed_act : TimedAct). timed_act.cycle ≤ c.args.cycle) c.loop-i.self (record { cycle = c.args.cycle; act = c.usual.result }) c.loop-i.invariant.order (omega arith));
  pushed = one_pushed c.loop-i.self _ _ c.args.cycle c.loop-i.i usual_acts c.usual.result c.usual.ensures.value c.in_ok-push.ensures.ok c.loop-i.invariant.pushed;
}
