use Rattle.std.proofs.Common.{sym, ap, ◌∙◌}
use Rattle.dp_text.specs.Lines.{stripped}
use Rattle.dp_frame.specs.Record.{ended_lines, unfinished_line}
use Rattle.dp_frame.proofs.FeedSteps.{represents-newline, answer-newline, line-cases}
use Rattle.dp_frame.proofs.lines.Lines.end_line.Goals as goal

pub returns-clause-represents : goal.returns-clause-represents
returns-clause-represents c = λ t s.
    let was = rw (← c.self.view_is) at s in
    let going = rw (← c.self.view_is) at c.requires.going in
    let k = was.prefix going in
    let cases = line-cases (unfinished_line t) c.self.inside.prefix.items c.whole.result.now c.self.inside.prefix_len k.prefix k.prefix_len
    (λ le. c.whole.ensures.short le ∙ ap stripped c.as_slice.ensures.value) (λ lt. c.whole.ensures.long lt ∙ c.as_slice.ensures.value) in
    rw c.clear.ensures (represents-newline _ c.line-ended.new.self t c.whole.result.now c.line-ended.ensures.settings going was cases (c.line-ended.ensures.represents (ended_lines t) was.lines))

pub returns-clause-answer : goal.returns-clause-answer
returns-clause-answer c = λ t s.
    let was = rw (← c.self.view_is) at s in
    let going = rw (← c.self.view_is) at c.requires.going in
    let k = was.prefix going in
    let cases = line-cases (unfinished_line t) c.self.inside.prefix.items c.whole.result.now c.self.inside.prefix_len k.prefix k.prefix_len
    (λ le. c.whole.ensures.short le ∙ ap stripped c.as_slice.ensures.value) (λ lt. c.whole.ensures.long lt ∙ c.as_slice.ensures.value) in
    c.line-ended.ensures.answer (ended_lines t) was.lines ∙ rw (← c.self.view_is) (answer-newline _ t c.whole.result.now (sym was.lines.refusal ∙ going) cases)
