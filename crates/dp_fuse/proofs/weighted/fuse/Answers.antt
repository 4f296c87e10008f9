use Rattle.std.proofs.Common.{rules, w64, of_z, to_z}
use Rattle.dp_fuse.proofs.Middles.{middle_within}
use Rattle.dp_fuse.proofs.weighted.fuse.Goals as goal

pub returns-in-Some-Some-Some-clause-bound : goal.returns-in-Some-Some-Some-clause-bound
returns-in-Some-Some-Some-clause-bound c =
    let it = c.in-Some-Some-Some in
    middle_within (to_z w64 (of_z w64 c.middle.result)) it.a.value it.b.value it.c.value (search rules) (search rules) (search rules) (search rules)
