use Rattle.std.proofs.Common.{◌≡◌, ◌+◌, ◌++◌, ◌∙◌, ℕ, List, sym, subst, ap, arith, take, get_or, None}
use Rattle.std.proofs.lemmas.List.{take_all}
use Rattle.dp_frame.specs.Feeds.{feed_of, told}
use Rattle.dp_frame.specs.Represents.{Represents}
use Rattle.dp_frame.specs.Record.{line_len}
use Rattle.dp_frame.proofs.FeedSteps.{represents-refused, answer-told}
use Rattle.dp_frame.proofs.PieceSteps.{answered-line, answered-one, answered-part, line-part, none-ended, not_whole, one-byte, to-line-end}
use Rattle.dp_frame.proofs.lines.Lines.take_line.Goals as goal

pub returns-in-Some-clause-represents : goal.returns-in-Some-clause-represents
returns-in-Some-clause-represents c = λ t s.
    rw (one-byte c.args.piece.now c.requires.some) (represents-refused _ t (get_or c.args.piece.now 0 0) c.in-Some.refusal c.in-Some.is (rw (← c.self.view_is) at s))

pub returns-in-Some-clause-answers : goal.returns-in-Some-clause-answers
returns-in-Some-clause-answers c = λ t s.
    let first = get_or c.args.piece.now 0 0 in
    rw (one-byte c.args.piece.now c.requires.some)
    (answered-one c.args.self.now.progress.settings t first (told c.in-Some.refusal) (rw (← c.self.view_is) (answer-told _ t first c.in-Some.refusal c.in-Some.is (rw (← c.self.view_is) at s))))

pub returns-then-at-piece-clause-represents : goal.returns-then-at-piece-clause-represents
returns-then-at-piece-clause-represents c = λ t s.
    let xs = c.args.piece.now in
    subst (λ (l : List ℕ). Represents c.keep_part.new.self (t ++ l)) (sym (take_all c.line_len-at.result xs (omega (arith, c.if-at-piece.true)))) (c.keep_part.ensures.represents t s)

pub returns-then-at-piece-clause-answers : goal.returns-then-at-piece-clause-answers
returns-then-at-piece-clause-answers c = λ t s.
    let xs = c.args.piece.now in
    let none : c.args.self.now.progress.refusal ≡ None = rw (← c.self.view_is) c.in_default.is in
    rw (take_all c.line_len-at.result xs (omega (arith, c.if-at-piece.true)))
    (answered-part c.args.self.now.progress.settings t xs c.requires.some (sym c.line_len-at.ensures ∙ c.if-at-piece.true) (none-ended c.args.self.now t none s))

pub take_whole-requires-clause-part : goal.take_whole-requires-clause-part
take_whole-requires-clause-part c = rw c.line_len-at.ensures (line-part c.args.piece.now)

pub returns-then-self-eq0-clause-represents : goal.returns-then-self-eq0-clause-represents
returns-then-self-eq0-clause-represents c = λ t s.
    let xs = c.args.piece.now in
    let lt = not_whole xs c.line_len-at.result c.line_len-at.ensures c.if-at-piece.false in
    subst (λ (l : List ℕ). Represents c.take_whole.new.self l) (to-line-end t xs lt ∙ ap (λ (n : ℕ). t ++ take (n + 1) xs) (sym c.line_len-at.ensures))
    (rw c.line_len-at.ensures at (c.take_whole.ensures.represents t s))

pub returns-then-self-eq0-clause-answers : goal.returns-then-self-eq0-clause-answers
returns-then-self-eq0-clause-answers c = λ t s.
    let xs = c.args.piece.now in
    let lt = not_whole xs c.line_len-at.result c.line_len-at.ensures c.if-at-piece.false in
    let none : c.args.self.now.progress.refusal ≡ None = rw (← c.self.view_is) c.in_default.is in
    rw c.line_len-at.ensures
    (answered-line c.args.self.now.progress.settings t xs (feed_of c.take_whole.new.self.progress.completed c.take_whole.result) lt (none-ended c.args.self.now t none s)
    (rw c.line_len-at.ensures at (c.take_whole.ensures.answer t s)))

pub keep_part-requires-2-clause-part : goal.keep_part-requires-2-clause-part
keep_part-requires-2-clause-part c = rw c.line_len-at.ensures (line-part c.args.piece.now)

pub overflow_add-result : goal.overflow_add-result
overflow_add-result c =
    let lt = not_whole c.args.piece.now c.line_len-at.result c.line_len-at.ensures c.if-at-piece.false in
    omega (arith, lt, c.line_len-at.ensures)

pub returns-clause-represents : goal.returns-clause-represents
returns-clause-represents c = λ t s.
    let xs = c.args.piece.now in
    let lt = not_whole xs c.line_len-at.result c.line_len-at.ensures c.if-at-piece.false in
    subst (λ (l : List ℕ). Represents c.end_line.new.self l) (to-line-end t xs lt ∙ ap (λ (n : ℕ). t ++ take (n + 1) xs) (sym c.line_len-at.ensures))
    (c.end_line.ensures.represents (t ++ take (line_len xs) xs) (rw c.line_len-at.ensures at (c.keep_part-2.ensures.represents t s)))

pub returns-clause-answers : goal.returns-clause-answers
returns-clause-answers c = λ t s.
    let xs = c.args.piece.now in
    let lt = not_whole xs c.line_len-at.result c.line_len-at.ensures c.if-at-piece.false in
    let none : c.args.self.now.progress.refusal ≡ None = rw (← c.self.view_is) c.in_default.is in
    let kept = rw c.line_len-at.ensures at (c.keep_part-2.ensures.represents t s) in
    rw c.line_len-at.ensures
    (answered-line c.args.self.now.progress.settings t xs (feed_of c.end_line.new.self.progress.completed c.end_line.result) lt (none-ended c.args.self.now t none s)
    (rw c.keep_part-2.ensures.progress at (c.end_line.ensures.answer (t ++ take (line_len xs) xs) kept)))
