use Rattle.std.proofs.Common.{◌≡◌, ◌≤◌, ◌*◌, ◌^◌, drop, ◌+ℤ◌, unsigned_abs}
use Rattle.dp_alloc.specs.Balance.{given}
use Rattle.dp_alloc.proofs.balance.given.Given as goal

abbrev pub invariant-loop-k : goal.invariant-loop-k
invariant-loop-k l = record {
  is : l.total +ℤ given l.axis l.column (drop l.k l.thrusters) (drop l.k l.rows) ≡ given l.axis l.column l.thrusters l.rows;
  small : unsigned_abs l.total ≤ l.k * 2 ^ 82;
}
