use Rattle.std.proofs.Common.{sym, ◌∙◌}
use Rattle.dp_frame.specs.declared.feed.Phase.TheVariants.{Last, Done}
use Rattle.dp_frame.specs.Record.{all_lines}
use Rattle.dp_frame.proofs.FinishSteps.{ending-told, no_refusal, ending-last, ending-done, whole-progress, last_open, done_open}
use Rattle.dp_frame.proofs.lines.Lines.finish.Goals as goal

pub returns-in-Some-clause-answer : goal.returns-in-Some-clause-answer
returns-in-Some-clause-answer c = λ t s.
    c.told.ensures.value ∙ rw (← c.self.view_is) (ending-told _ t c.in-Some.refusal c.in-Some.is (rw (← c.self.view_is) at s))

pub returns-in-Some-clause-phase : goal.returns-in-Some-clause-phase
returns-in-Some-clause-phase c = λ t s ok.
    absurd (no_refusal _ t c.in-Some.refusal c.in-Some.is (rw (← c.self.view_is) at s) (rw (← c.self.view_is) at ok))

pub returns-in-Last-clause-answer : goal.returns-in-Last-clause-answer
returns-in-Last-clause-answer c = λ t s.
    let was = rw (← c.self.view_is) at s in
    let b = whole-progress _ t Last c.in-Last.is last_open was in
    c.last_frame.ensures.answer (all_lines t) b c.in_default.is
    ∙ rw (← c.self.view_is) (sym (ending-last c.self.inside.progress.settings t c.self.inside.phase c.in-Last.is (sym b.refusal ∙ c.in_default.is)).0)

pub returns-in-Last-clause-phase : goal.returns-in-Last-clause-phase
returns-in-Last-clause-phase c = λ t s ok.
    let was = rw (← c.self.view_is) at s in
    let b = whole-progress _ t Last c.in-Last.is last_open was in
    rw (← c.self.view_is) (sym (ending-last c.self.inside.progress.settings t c.self.inside.phase c.in-Last.is (sym b.refusal ∙ c.in_default.is)).1)

pub returns-in-Done-clause-answer : goal.returns-in-Done-clause-answer
returns-in-Done-clause-answer c = λ t s.
    let was = rw (← c.self.view_is) at s in
    let b = whole-progress _ t Done c.in-Done.is done_open was in
    rw (← c.self.view_is) (sym (ending-done c.self.inside.progress.settings t c.self.inside.phase c.in-Done.is (sym b.refusal ∙ c.in_default.is)).0)

pub returns-in-Done-clause-phase : goal.returns-in-Done-clause-phase
returns-in-Done-clause-phase c = λ t s ok.
    let was = rw (← c.self.view_is) at s in
    let b = whole-progress _ t Done c.in-Done.is done_open was in
    rw (← c.self.view_is) (c.in-Done.is ∙ sym (ending-done c.self.inside.progress.settings t c.self.inside.phase c.in-Done.is (sym b.refusal ∙ c.in_default.is)).1)
