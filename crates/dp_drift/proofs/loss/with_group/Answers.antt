use Rattle.std.proofs.Common.{arith}
use Rattle.dp_fixed.proofs.BitLemmas.{added_fits}
use Rattle.dp_drift.proofs.loss.with_group.Goals as goal

pub overflow_add-result : goal.overflow_add-result
overflow_add-result c =
    omega (arith, added_fits c.args.group 8 c.args.lost c.requires.group (omega arith) c.requires.ready)
