use Rattle.std.proofs.Common.{◌≡◌, ◌==◌, length, arith, sym, ◌∙◌, ap}
use Rattle.std.proofs.lemmas.List.Elements.{All-same, All-filter}
use Rattle.dp_script.specs.declared.timed_act.TimedAct.{TimedAct}
use Rattle.dp_script.specs.Acts.{IsWithin, usual_acts}
use Rattle.dp_script.specs.TimedActs.{acts_at}
use Rattle.dp_script.proofs.Spans.{acts_none}
use Rattle.dp_script.proofs.script.Script.act.Goals as goal

pub usual-requires : goal.usual-requires
usual-requires c =
    let none = acts_none c.as_slice.result.now c.named-named.result.now c.args.cycle c.named-named.ensures (sym c.is_empty.ensures ∙ c.if-is_empty.true) in
    let usual : acts_at c.args.cycle c.args.self.now ≡ usual_acts = rw (← c.self.view_is, ← c.as_slice.ensures.value) none in
    omega (arith, ap length usual)

pub act_at-requires-clause-within : goal.act_at-requires-clause-within
act_at-requires-clause-within c =
    All-same (λ (timed_act : TimedAct). IsWithin timed_act.act) _ _ c.named-named.ensures
    (All-filter (λ (timed_act : TimedAct). timed_act.cycle == c.args.cycle) (λ (timed_act : TimedAct). IsWithin timed_act.act) c.as_slice.result.now
    (All-same (λ (timed_act : TimedAct). IsWithin timed_act.act) _ _ c.as_slice.ensures.value c.self.invariant.within))
