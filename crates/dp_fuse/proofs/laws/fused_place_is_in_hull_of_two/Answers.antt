use Rattle.dp_fuse.proofs.Hulls.{in_hull_of_two}
use Rattle.dp_fuse.proofs.laws.fused_place_is_in_hull_of_two.Goals as goal

pub returns : goal.returns
returns c = in_hull_of_two
