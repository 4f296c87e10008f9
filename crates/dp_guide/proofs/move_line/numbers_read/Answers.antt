use Rattle.std.proofs.Common.{sym}
use Rattle.dp_guide.specs.MoveLines.{numbers_of}
use Rattle.dp_guide.proofs.MovesPhrases.{too_many}
use Rattle.dp_guide.proofs.move_line.numbers_read.Goals as goal

pub returns-in_default : goal.returns-in_default
unfolding numbers_of
returns-in_default c = sym (too_many c.args.line.now c.in_default.ensures)
