use Rattle.std.proofs.Common.{rules}
use Rattle.dp_alloc.proofs.KeptCases.{case_at, fault_none}
use Rattle.dp_alloc.proofs.cases.Cases.of.Goals as goal

pub unreachable-requires : goal.unreachable-requires
unreachable-requires c =
    let p = c.args.plant.now in
    let of = case_at p c.loop-raw.raw-index c.raw-item.result (search rules) (search rules) in
    search (rules, fault_none p c.raw-item.result c.requires of)
