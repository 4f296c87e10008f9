use Rattle.std.proofs.Common.{◌≡◌, drop}
use Rattle.dp_alloc.specs.Refusals.{first_of}
use Rattle.dp_alloc.proofs.refusals.first_refused.Given as goal

abbrev pub invariant-loop-raw : goal.invariant-loop-raw
invariant-loop-raw l = first_of l.plant (drop l.raw-index l.raw-items) ≡ first_of l.plant l.plant.cases.items
