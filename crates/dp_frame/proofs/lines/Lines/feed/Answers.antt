use Rattle.std.proofs.Common.{◌++◌, ℕ, List, ◌∙◌, subst}
use Rattle.dp_frame.specs.Cycles.{IsAnswered}
use Rattle.dp_frame.specs.Feeds.{feed_of}
use Rattle.dp_frame.specs.Represents.{Represents}
use Rattle.dp_frame.proofs.PieceSteps.{answered-is, taken-one}
use Rattle.dp_frame.proofs.lines.Lines.feed.Goals as goal

pub returns-clause-represents : goal.returns-clause-represents
returns-clause-represents c = λ t s.
    let line = c.take_line-ended in
    subst (λ (l : List ℕ). Represents line.new.self (t ++ l)) (taken-one c.args.byte line.result.0 line.ensures.some line.ensures.within) (line.ensures.represents t s)

pub returns-clause-answer : goal.returns-clause-answer
returns-clause-answer c = λ t s.
    let line = c.take_line-ended in
    let p = c.args.self.now.progress.settings in
    let answer = feed_of line.new.self.progress.completed line.result.1 in
    c.feed_of.ensures ∙ answered-is p t c.args.byte answer
    (subst (λ (l : List ℕ). IsAnswered p t l answer) (taken-one c.args.byte line.result.0 line.ensures.some line.ensures.within) (line.ensures.answers t s))
