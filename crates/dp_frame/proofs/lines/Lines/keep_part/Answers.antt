use Rattle.dp_frame.proofs.PieceSteps.{represents-part}
use Rattle.dp_frame.proofs.lines.Lines.keep_part.Goals as goal

pub returns-clause-represents : goal.returns-clause-represents
returns-clause-represents c = λ t s.
    represents-part _ t c.args.bytes.now c.keep.new.prefix.items c.requires.part (rw (← c.self.view_is) at c.requires.going) (rw (← c.self.view_is) at s) (c.keep.ensures.kept c.self.invariant.short)
