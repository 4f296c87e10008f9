use Rattle.std.proofs.Common.{refl, sym, ◌∙◌, arith}
use Rattle.dp_frame.specs.Record.{ended_lines, all_lines}
use Rattle.dp_frame.specs.Feeds.{feed_of}
use Rattle.dp_frame.proofs.FinishSteps.{all-done, answer-none, ending-more, ending-other, more-is, answer-more, whole-done, whole-last, judges}
use Rattle.dp_frame.proofs.lines.Lines.last_line.Goals as goal

pub returns-then-self-eq0-clause-represents : goal.returns-then-self-eq0-clause-represents
returns-then-self-eq0-clause-represents c = λ t s.
    let was = rw (← c.self.view_is) at s in
    let going = rw (← c.self.view_is) at c.requires.going in
    let k = was.prefix going in
    whole-done _ _ _ _ t (rw (all-done t (sym k.prefix_len ∙ c.if-self-eq0.true)) was.lines)

pub returns-then-self-eq0-clause-answer : goal.returns-then-self-eq0-clause-answer
returns-then-self-eq0-clause-answer c = λ t s.
    let was = rw (← c.self.view_is) at s in
    let going = rw (← c.self.view_is) at c.requires.going in
    let k = was.prefix going in
    let all = all-done t (sym k.prefix_len ∙ c.if-self-eq0.true) in
    let still = answer-none c.self.inside.progress.settings (ended_lines t) (sym was.lines.refusal ∙ going) in
    let more = ending-more c.self.inside.progress.settings t (rw all still) in
    c.last_frame.ensures.answer (ended_lines t) was.lines going ∙ rw (← c.self.view_is, more.0, all)

pub returns-then-self-eq0-clause-phase : goal.returns-then-self-eq0-clause-phase
returns-then-self-eq0-clause-phase c = λ t s ok.
    let was = rw (← c.self.view_is) at s in
    let going = rw (← c.self.view_is) at c.requires.going in
    let k = was.prefix going in
    let all = all-done t (sym k.prefix_len ∙ c.if-self-eq0.true) in
    let still = answer-none c.self.inside.progress.settings (ended_lines t) (sym was.lines.refusal ∙ going) in
    rw (← c.self.view_is) (sym (ending-more c.self.inside.progress.settings t (rw all still)).1)

pub returns-then-is_nothing-clause-represents : goal.returns-then-is_nothing-clause-represents
returns-then-is_nothing-clause-represents c = λ t s.
    let was = rw (← c.self.view_is) at s in
    let j = judges _ c.line-ended.new.self (feed_of c.line-ended.new.self.completed c.line-ended.result) c.as_slice.result.now t was (rw (← c.self.view_is) at c.requires.going) c.if-self-eq0.false c.as_slice.ensures.value c.line-ended.ensures.settings
    (c.line-ended.ensures.represents (ended_lines t) was.lines) (c.line-ended.ensures.answer (ended_lines t) was.lines) in
    whole-done _ _ _ _ t j.progress

pub returns-then-is_nothing-clause-answer : goal.returns-then-is_nothing-clause-answer
returns-then-is_nothing-clause-answer c = λ t s.
    let was = rw (← c.self.view_is) at s in
    let j = judges _ c.line-ended.new.self (feed_of c.line-ended.new.self.completed c.line-ended.result) c.as_slice.result.now t was (rw (← c.self.view_is) at c.requires.going) c.if-self-eq0.false c.as_slice.ensures.value c.line-ended.ensures.settings
    (c.line-ended.ensures.represents (ended_lines t) was.lines) (c.line-ended.ensures.answer (ended_lines t) was.lines) in
    let more = sym j.answer_is ∙ more-is _ (sym (c.if-is_nothing.ensures c.line-ended.new.self.completed)) in
    let ok = j.progress.refusal ∙ rw c.line-ended.ensures.settings (answer-more c.self.inside.progress.settings (ended_lines t) (all_lines t) more) in
    c.last_frame-then-is_nothing.ensures.answer (all_lines t) j.progress ok ∙ rw (← c.self.view_is, c.line-ended.ensures.settings) (sym (ending-more c.self.inside.progress.settings t more).0)

pub returns-then-is_nothing-clause-phase : goal.returns-then-is_nothing-clause-phase
returns-then-is_nothing-clause-phase c = λ t s ok.
    let was = rw (← c.self.view_is) at s in
    let j = judges _ c.line-ended.new.self (feed_of c.line-ended.new.self.completed c.line-ended.result) c.as_slice.result.now t was (rw (← c.self.view_is) at c.requires.going) c.if-self-eq0.false c.as_slice.ensures.value c.line-ended.ensures.settings
    (c.line-ended.ensures.represents (ended_lines t) was.lines) (c.line-ended.ensures.answer (ended_lines t) was.lines) in
    let more = sym j.answer_is ∙ more-is _ (sym (c.if-is_nothing.ensures c.line-ended.new.self.completed)) in
    rw (← c.self.view_is) (sym (ending-more c.self.inside.progress.settings t more).1)

pub returns : goal.returns
returns c = record {
  represents = λ t s.
      let was = rw (← c.self.view_is) at s in
      let j = judges _ c.line-ended.new.self (feed_of c.line-ended.new.self.completed c.line-ended.result) c.as_slice.result.now t was (rw (← c.self.view_is) at c.requires.going) c.if-self-eq0.false c.as_slice.ensures.value c.line-ended.ensures.settings
      (c.line-ended.ensures.represents (ended_lines t) was.lines) (c.line-ended.ensures.answer (ended_lines t) was.lines) in
      whole-last _ _ _ _ t j.progress;
  answer = λ t s.
      let was = rw (← c.self.view_is) at s in
      let j = judges _ c.line-ended.new.self (feed_of c.line-ended.new.self.completed c.line-ended.result) c.as_slice.result.now t was (rw (← c.self.view_is) at c.requires.going) c.if-self-eq0.false c.as_slice.ensures.value c.line-ended.ensures.settings
      (c.line-ended.ensures.represents (ended_lines t) was.lines) (c.line-ended.ensures.answer (ended_lines t) was.lines) in
      rw (c.feed_of.ensures, ← c.self.view_is) (sym (ending-other c.self.inside.progress.settings t _ (sym j.answer_is) (sym (c.if-is_nothing.ensures c.line-ended.new.self.completed))).0);
  phase = λ t s ok.
      let was = rw (← c.self.view_is) at s in
      let j = judges _ c.line-ended.new.self (feed_of c.line-ended.new.self.completed c.line-ended.result) c.as_slice.result.now t was (rw (← c.self.view_is) at c.requires.going) c.if-self-eq0.false c.as_slice.ensures.value c.line-ended.ensures.settings
      (c.line-ended.ensures.represents (ended_lines t) was.lines) (c.line-ended.ensures.answer (ended_lines t) was.lines) in
      rw (← c.self.view_is) (sym (ending-other c.self.inside.progress.settings t _ (sym j.answer_is) (sym (c.if-is_nothing.ensures c.line-ended.new.self.completed))).1);
  fewer = omega arith;
  range = rw (c.feed_of.ensures, ← c.self.view_is) c.line-ended.ensures.range;
  closes = rw (c.feed_of.ensures, ← c.self.view_is) c.line-ended.ensures.closes;
  next = λ _. rw (c.feed_of.ensures, ← c.self.view_is) c.line-ended.ensures.next;
  bytes = rw (← c.self.view_is) refl;
  settings = rw (← c.self.view_is) c.line-ended.ensures.settings;
}
