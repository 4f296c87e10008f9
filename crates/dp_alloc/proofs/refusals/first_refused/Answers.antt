use Rattle.std.proofs.Common.{rules}
use Rattle.dp_alloc.proofs.Accepting.{case_ranges}
use Rattle.dp_alloc.proofs.KeptCases.{case_at}
use Rattle.dp_alloc.proofs.refusals.first_refused.Goals as goal

pub refusal-refusal-requires : goal.refusal-refusal-requires
refusal-refusal-requires c =
    let p = c.args.plant.now in
    case_ranges p c.raw-item.result (case_at p c.loop-raw.raw-index c.raw-item.result (search rules) (search rules))
