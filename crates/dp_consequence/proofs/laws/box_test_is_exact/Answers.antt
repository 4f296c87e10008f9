use Rattle.dp_consequence.proofs.Boxes.{box_from, box_to}
use Rattle.dp_consequence.proofs.laws.box_test_is_exact.Goals as goal

pub returns : goal.returns
returns c = λ box a. (box_from box a, box_to box a)
