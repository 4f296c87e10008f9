use Rattle.std.proofs.Common.{◌≡◌, ◌≤◌, ◌^◌, unsigned_abs}
use Rattle.dp_drift.specs.Drift.{velocity_after, way_after}
use Rattle.dp_drift.specs.Laws.{IsKept}
use Rattle.dp_drift.proofs.drift.moved_by.Given as goal

abbrev pub invariant-loop-i : goal.invariant-loop-i
invariant-loop-i l = record {
  surge : l.v ≡ velocity_after l.damp l.u l.i;
  surge_way : l.x ≡ way_after l.damp l.u l.i;
  surge_small : unsigned_abs l.v ≤ 2 ^ 65;
  surge_near : unsigned_abs l.x ≤ 2 ^ 63;
  sway : l.t ≡ velocity_after l.damp l.w l.i;
  sway_way : l.y ≡ way_after l.damp l.w l.i;
  sway_small : unsigned_abs l.t ≤ 2 ^ 65;
  sway_near : unsigned_abs l.y ≤ 2 ^ 63;
  kept : IsKept l.damp l.limit l.u l.w l.i;
}
