use Rattle.std.proofs.Common.{◌∙◌}
use Rattle.dp_frame.proofs.PieceSteps.{line_len-found}
use Rattle.dp_frame.proofs.lines.line_len.Goals as goal

pub returns : goal.returns
returns c = c.unwrap_or.ensures ∙ line_len-found c.args.text.now c.memchr.result c.memchr.ensures
