use Rattle.std.proofs.Common.{leb, leb-true, leb-false, rules, of_calls}
use Rattle.std.proofs.lemmas.List.Sorted.{IsPartitionPoint-from_clause, IsPartitionedBy-leb}
use Rattle.dp_script.specs.declared.timed_act.TimedAct.{TimedAct}
use Rattle.dp_script.proofs.script.count_through.Goals as goal

pub returns : goal.returns
returns c =
    let parted = IsPartitionedBy-leb (λ (timed_act : TimedAct). timed_act.cycle) _ c.args.cycle c.requires in
    let point = IsPartitionPoint-from_clause (λ (timed_act : TimedAct). leb timed_act.cycle c.args.cycle) _ _ c.partition_point.ensures.partitioned parted (λ a r q k. search (rules, of_calls)) in
    record {
      bound = c.partition_point.ensures.bound;
      below = λ k d l h. leb-true _ _ (point.0 k d l h);
      rest = λ k d l h. leb-false _ _ (point.1 k d l h);
    }
