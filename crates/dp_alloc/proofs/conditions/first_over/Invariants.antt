use Rattle.std.proofs.Common.{◌≡◌, drop}
use Rattle.dp_alloc.specs.Conditions.{first_over}
use Rattle.dp_alloc.proofs.conditions.first_over.Given as goal

abbrev pub invariant-loop-k : goal.invariant-loop-k
invariant-loop-k l = first_over l.k l.bounds (drop l.k l.limits) (drop l.k l.rows) ≡ first_over 0 l.bounds l.limits l.rows
