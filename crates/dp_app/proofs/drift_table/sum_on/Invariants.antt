use Rattle.std.proofs.Common.{◌≡◌, ◌≤◌, ◌*◌, ◌^◌, drop, map, unsigned_abs, ◌+ℤ◌}
use Rattle.dp_consequence.specs.Demands.{sum_of}
use Rattle.dp_plant.specs.{entry}
use Rattle.dp_app.proofs.drift_table.sum_on.Given as goal

-- with what is left it is the whole sum
abbrev pub invariant-loop-i : goal.invariant-loop-i
invariant-loop-i l = record {
  sum : l.total +ℤ sum_of (map (λ d. entry d l.axis) (drop l.i l.demands)) ≡ sum_of (map (λ d. entry d l.axis) l.demands);
  bound : unsigned_abs l.total ≤ 2 ^ 38 * l.i;
}
