use Rattle.std.proofs.Common.{◌≡◌, map, take}
use Rattle.dp_alloc.proofs.cases.Cases.of.Given as goal

abbrev pub invariant-loop-raw : goal.invariant-loop-raw
invariant-loop-raw l = map (λ c. c.raw) l.list.items ≡ take l.raw-index l.raw-items
