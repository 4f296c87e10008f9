use Rattle.std.proofs.Common.{rules}
use Rattle.dp_alloc.proofs.Accepting.{case_ranges, kept}
use Rattle.dp_alloc.proofs.case.Case.accept.Goals as goal

pub case_fault-requires : goal.case_fault-requires
case_fault-requires c = case_ranges c.args.plant.now c.args.raw.now c.requires

pub invariant_of-result : goal.invariant_of-result
invariant_of-result c =
    let all = kept c.args.plant.now c.args.raw.now c.copy.result c.all_limits.result.items c.requires (search rules) c.copy.ensures (search rules) in
    record { ranges = all.ranges; allowed = all.allowed }
