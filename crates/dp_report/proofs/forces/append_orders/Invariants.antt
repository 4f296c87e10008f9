use Rattle.std.proofs.Common.{◌≡◌, ◌+◌, ◌*◌, ◌≤◌, ◌++◌, take}
use Rattle.std.specs.List.{flat_map}
use Rattle.arrayvec.specs.ArrayVec.{array_vec_len}
use Rattle.dp_report.specs.Text.{order_text}
use Rattle.dp_report.proofs.forces.append_orders.Given as goal

abbrev pub invariant-loop-order : goal.invariant-loop-order
invariant-loop-order l = record {
  text : l.into.items ≡ l.initial.into.items ++ flat_map order_text (take l.order-index l.orders);
  room : array_vec_len l.into ≤ array_vec_len l.initial.into + 21 * l.order-index;
}
