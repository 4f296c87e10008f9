use Rattle.std.proofs.Common.{sym}
use Rattle.dp_script.specs.Commands.{phrase_of}
use Rattle.dp_script.proofs.Phrases.{too_many}
use Rattle.dp_script.proofs.command.phrase_read.Goals as goal

pub returns-in_default : goal.returns-in_default
unfolding phrase_of
returns-in_default c = sym (too_many c.args.line.now c.in_default.ensures)
