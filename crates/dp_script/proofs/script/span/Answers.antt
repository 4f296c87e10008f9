use Rattle.std.proofs.Common.{sym}
use Rattle.dp_script.proofs.Spans.{filter_cycle, span_order}
use Rattle.dp_script.proofs.script.span.Goals as goal

pub returns-clause-order : goal.returns-clause-order
returns-clause-order c = span_order c.args.timed_acts.now c.args.cycle _ _ c.count_before.ensures.bound c.count_before.ensures.below c.count_through.ensures.rest

pub returns-clause-timed_acts : goal.returns-clause-timed_acts
returns-clause-timed_acts c =
    sym (filter_cycle c.args.timed_acts.now c.args.cycle _ _ c.count_through.ensures.bound c.count_before.ensures.below c.count_before.ensures.rest c.count_through.ensures.below c.count_through.ensures.rest
    (span_order c.args.timed_acts.now c.args.cycle _ _ c.count_before.ensures.bound c.count_before.ensures.below c.count_through.ensures.rest))
