use Rattle.std.proofs.Common.{sym, ◌∙◌, arith}
use Rattle.dp_frame.proofs.PieceSteps.{take-room}
use Rattle.dp_frame.proofs.lines.keep.Goals as goal

pub returns-clause-kept : goal.returns-clause-kept
returns-clause-kept c = λ short.
    c.append.ensures.text ∙ sym (take-room 193 c.min-count.result c.args.prefix.now.items c.args.bytes.now short (omega (arith, c.min-count.ensures, c.remaining_capacity.ensures)))
