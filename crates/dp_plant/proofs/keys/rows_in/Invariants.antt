use Rattle.std.proofs.Common.{◌≡◌, drop, length}
use Rattle.toml.specs.View.{items_view}
use Rattle.dp_plant.specs.Keys.{all_some, wholes}
use Rattle.dp_plant.proofs.Items.{with_front}
use Rattle.dp_plant.proofs.keys.rows_in.Given as goal

abbrev pub invariant-loop-item : goal.invariant-loop-item
invariant-loop-item g l = (length l.rows.items ≡ l.item-index)
    × (with_front l.rows.items (all_some (wholes g.row.N) (items_view (drop l.item-index l.items))) ≡ all_some (wholes g.row.N) (items_view l.items))
