use Rattle.std.proofs.Common.{◌≡◌, ◌≤◌, ◌*◌, ◌^◌, length, pos}
use Rattle.arrayvec.specs.ArrayVec.{array_vec_len}
use Rattle.dp_app.proofs.DriftTables.{ready_so_far, table_so_far}
use Rattle.dp_app.proofs.drift_table.table_by.Given as goal

-- the groups so far have their lines
abbrev pub invariant-loop-group : goal.invariant-loop-group
invariant-loop-group l = record {
  lines : l.text.items ≡ table_so_far l.plant l.lost l.mean (pos (l.limit * 10 ^ 6)) l.cycles l.group;
  many : l.count ≡ length (ready_so_far l.lost l.group);
  room : array_vec_len l.text ≤ 136 * l.group;
  few : l.count ≤ l.group;
}
