use Rattle.std.proofs.Common.{◌≡◌, take, drop, length}
use Rattle.toml.specs.Data.{as_integer}
use Rattle.toml.specs.View.{items_view}
use Rattle.dp_plant.specs.Keys.{all_some}
use Rattle.dp_plant.proofs.Items.{with_front}
use Rattle.dp_guide.proofs.limits.integers.Given as goal

abbrev pub invariant-loop-i : goal.invariant-loop-i
invariant-loop-i g l = (length l.numbers ≡ g.row.N)
    × (with_front (take l.i l.numbers) (all_some as_integer (items_view (drop l.i l.items))) ≡ all_some as_integer (items_view l.items))
