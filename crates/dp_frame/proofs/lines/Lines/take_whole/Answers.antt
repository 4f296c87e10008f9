use Rattle.std.proofs.Common.{◌++◌, refl, ◌∙◌}
use Rattle.dp_frame.specs.Record.{ended_lines}
use Rattle.dp_frame.proofs.PieceSteps.{answer-whole, lines-part, represents-whole, whole-cases}
use Rattle.dp_frame.proofs.lines.Lines.take_whole.Goals as goal

pub returns-clause-represents : goal.returns-clause-represents
returns-clause-represents c = λ t s.
    let was = rw (← c.self.view_is) at s in
    let going = rw (← c.self.view_is) at c.requires.going in
    let fresh = rw (← c.self.view_is) at c.requires.fresh in
    let cases = whole-cases c.args.line.now c.whole.result.now _ refl c.whole.ensures.short c.whole.ensures.long in
    represents-whole _ c.line.new.self t c.args.line.now c.whole.result.now c.line.ensures.settings going c.requires.part fresh was cases c.line.ensures.represents

pub returns-clause-answer : goal.returns-clause-answer
returns-clause-answer c = λ t s.
    let was = rw (← c.self.view_is) at s in
    let going = rw (← c.self.view_is) at c.requires.going in
    let fresh = rw (← c.self.view_is) at c.requires.fresh in
    let u = c.args.line.now in
    let cases = whole-cases u c.whole.result.now _ refl c.whole.ensures.short c.whole.ensures.long in
    c.line.ensures.answer (ended_lines (t ++ u)) (lines-part _ t u c.requires.part was)
    ∙ rw (← c.self.view_is) (answer-whole _ t u c.whole.result.now going c.requires.part fresh was cases)
