use Rattle.std.proofs.Common.{◌≡◌, ◌+◌, drop, length, map}
use Rattle.toml.specs.View.{items_view}
use Rattle.dp_plant.specs.Keys.{all_some, wholes}
use Rattle.dp_plant.specs.PlantFile.{square_row}
use Rattle.dp_plant.proofs.Items.{with_front}
use Rattle.dp_plant.proofs.keys.squares_in.Given as goal

abbrev pub invariant-loop-item : goal.invariant-loop-item
invariant-loop-item g l = (length l.list.items ≡ l.item-index)
    × (with_front (map square_row l.list.items) (all_some (wholes (g.row.N + 1)) (items_view (drop l.item-index l.items))) ≡ all_some (wholes (g.row.N + 1)) (items_view l.items))
