use Rattle.std.proofs.Common.{◌≡◌, ◌-◌, ◌<◌, sym, ap, ◌∙◌, arith}
use Rattle.dp_frame.specs.Frames.{frame_of}
use Rattle.dp_frame.specs.Record.{last_cycle}
use Rattle.dp_frame.proofs.EmptyFrames.{frame-before}
use Rattle.dp_frame.proofs.Entering.{closed-later, closed-same, same_cycle, bounded-empty, given-closed}
use Rattle.dp_frame.proofs.progress.enter.Goals as goal

pub returns-then-cycle-entry-clause-kept : goal.returns-then-cycle-entry-clause-kept
unfolding frame_of
returns-then-cycle-entry-clause-kept c = λ es was f.
    let lt : last_cycle es < c.args.entry.now.cycle = rw was at c.if-cycle-entry.true in
    c.note.ensures.noted es (c.begin.ensures.kept ∙ sym (frame-before c.args.entry.now.cycle es (f.rising c.args.entry.now.cycle lt)))

pub returns-then-cycle-entry-clause-answer : goal.returns-then-cycle-entry-clause-answer
unfolding frame_of
returns-then-cycle-entry-clause-answer c = λ es was f.
    let lt : last_cycle es < c.args.entry.now.cycle = rw was at c.if-cycle-entry.true in
    rw (c.begin.ensures.completed, was) (sym (closed-later c.args.entry.now es lt))

pub returns-then-cycle-entry-clause-bounded : goal.returns-then-cycle-entry-clause-bounded
returns-then-cycle-entry-clause-bounded c = λ n was.
    c.note.ensures.bounded n (rw c.begin.ensures.kept (bounded-empty n c.args.entry.now.cycle))

pub returns-then-cycle-entry-clause-range : goal.returns-then-cycle-entry-clause-range
returns-then-cycle-entry-clause-range c = λ groups was e.
    (c.note.ensures.range groups (c.begin.ensures.range e.cycle groups) e, rw c.begin.ensures.completed (was, omega (arith, e.cycle, c.if-cycle-entry.true)))

pub returns-then-cycle-entry-clause-next : goal.returns-then-cycle-entry-clause-next
returns-then-cycle-entry-clause-next c =
    let opened : c.begin.new.kept.cycle ≡ c.args.entry.now.cycle = rw c.begin.ensures.kept in
    omega (arith, c.note.ensures.cycle, opened, given-closed c.begin.new.completed (c.args.entry.now.cycle - c.args.kept.now.cycle - 1), c.if-cycle-entry.true)

pub returns-else-cycle-entry-clause-kept : goal.returns-else-cycle-entry-clause-kept
returns-else-cycle-entry-clause-kept c = λ es was f.
    let eq = same_cycle c.args.entry.now es c.args.kept.now was f c.if-cycle-entry.false in
    c.note-else-cycle-entry.ensures.noted es (was ∙ ap (λ n. frame_of n es) eq)

pub returns-else-cycle-entry-clause-answer : goal.returns-else-cycle-entry-clause-answer
returns-else-cycle-entry-clause-answer c = λ es was f.
    sym (closed-same c.args.entry.now es (same_cycle c.args.entry.now es c.args.kept.now was f c.if-cycle-entry.false))

pub returns-else-cycle-entry-clause-range : goal.returns-else-cycle-entry-clause-range
returns-else-cycle-entry-clause-range c = λ groups was e. (c.note-else-cycle-entry.ensures.range groups was e, tt)
