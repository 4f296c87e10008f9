use Rattle.std.proofs.Common.{◌≡◌, ℕ, ◌<◌, pos, ◌≤ℤ◌, length, All}
use Rattle.dp_form.specs.Vectors.{row}
use Rattle.dp_form.specs.Residual.{residual}
use Rattle.dp_form.specs.Shown.{shortfall}
use Rattle.dp_form.proofs.check.is_nonneg.Given as goal

abbrev pub invariant-loop-row : goal.invariant-loop-row
invariant-loop-row g l = record {
  none_short : (k : ℕ) → k < l.row → shortfall (residual l.s.at l.w.list.items) k ≤ℤ pos 0;
  rows_wide : (k : ℕ) → k < l.row → length (row l.s.at k) ≡ g.row.N;
  squares_wide : 0 < l.row → All (λ q. length q.l ≡ g.row.N) l.w.list.items;
}
