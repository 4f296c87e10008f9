use Rattle.dp_squares.proofs.SameLists.{same_lists}
use Rattle.dp_squares.proofs.made.with_lists.Goals as goal

pub returns : goal.returns
returns g c = rw c.copied.ensures (same_lists _ _ _ _ _ _ _ _)
