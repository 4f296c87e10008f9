use Rattle.std.proofs.Common.{◌-◌, ap, ◌∙◌}
use Rattle.dp_reftest.proofs.Reading.{verdict_by_sums}
use Rattle.dp_reftest.specs.Running.{verdict_by}
use Rattle.dp_reftest.proofs.sums.Sums.verdict.Goals as goal

pub returns-clause-value : goal.returns-clause-value
returns-clause-value c xs near sums ends =
    c.judged.ensures.value ∙ ap (λ s. verdict_by c.args.limits.now s c.args.newest (c.args.now - c.args.last)) sums ∙ verdict_by_sums c.args.limits.now c.args.newest xs c.args.last c.args.now ends
