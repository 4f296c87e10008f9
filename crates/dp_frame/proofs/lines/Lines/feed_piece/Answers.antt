use Rattle.std.proofs.Common.{◌≡◌, ◌++◌, ℕ, List, length, refl, subst, sym, ◌∙◌, ◌-◌, arith, append-nil, drop, take}
use Rattle.std.proofs.lemmas.List.{length-drop, length-take, take_rest}
use Rattle.dp_frame.specs.declared.feed.Feed.TheVariants.{More}
use Rattle.dp_frame.specs.Cycles.{answers_after}
use Rattle.dp_frame.specs.Feeds.{feed_of, given}
use Rattle.dp_frame.specs.Represents.{Represents}
use Rattle.dp_frame.proofs.FinishSteps.{told-more}
use Rattle.dp_frame.proofs.PieceSteps.{piece-answered, piece-quiet, to-part-end}
use Rattle.dp_frame.proofs.lines.Lines.feed_piece.Goals as goal

pub loop-taken-init : goal.loop-taken-init
unfolding answers_after
loop-taken-init c = record {
  within = omega arith;
  reads = λ t s. subst (λ (l : List ℕ). Represents c.args.self.now l) (sym (append-nil t)) s;
  quiet = λ t s. refl;
  same = refl;
  cycle = refl;
  fed = omega arith;
  open_still = c.requires.open;
}

pub returns-in-Cycle-clause-represents : goal.returns-in-Cycle-clause-represents
returns-in-Cycle-clause-represents c = λ t s.
    let line = c.take_line-count in
    subst (λ (l : List ℕ). Represents line.new.self l) (to-part-end t c.args.piece.now c.loop-taken.taken line.result.0)
    (rw take_rest at (line.ensures.represents (t ++ take c.loop-taken.taken c.args.piece.now) (c.loop-taken.invariant.reads t s)))

pub returns-in-Cycle-clause-answers : goal.returns-in-Cycle-clause-answers
returns-in-Cycle-clause-answers c = λ t s.
    let line = c.take_line-count in
    let xs = c.args.piece.now in
    let i = c.loop-taken.taken in
    let inv = c.loop-taken.invariant in
    let last = rw (inv.same, take_rest) at (line.ensures.answers (t ++ take i xs) (inv.reads t s)) in
    rw (c.in-Cycle.is, ← c.self.view_is) at (piece-answered c.args.self.now.progress.settings t xs i line.result.0 (feed_of line.new.self.progress.completed line.result.1) line.ensures.some (rw take_rest at line.ensures.within) (inv.quiet t s) last)

pub returns-in-Record-clause-represents : goal.returns-in-Record-clause-represents
returns-in-Record-clause-represents c = λ t s.
    let line = c.take_line-count in
    subst (λ (l : List ℕ). Represents line.new.self l) (to-part-end t c.args.piece.now c.loop-taken.taken line.result.0)
    (rw take_rest at (line.ensures.represents (t ++ take c.loop-taken.taken c.args.piece.now) (c.loop-taken.invariant.reads t s)))

pub returns-in-Record-clause-answers : goal.returns-in-Record-clause-answers
returns-in-Record-clause-answers c = λ t s.
    let line = c.take_line-count in
    let xs = c.args.piece.now in
    let i = c.loop-taken.taken in
    let inv = c.loop-taken.invariant in
    let last = rw (inv.same, take_rest) at (line.ensures.answers (t ++ take i xs) (inv.reads t s)) in
    rw c.told.ensures.value (rw c.in-Record.is at (piece-answered c.args.self.now.progress.settings t xs i line.result.0 (feed_of line.new.self.progress.completed line.result.1) line.ensures.some (rw take_rest at line.ensures.within) (inv.quiet t s) last))

pub returns-in-Record-clause-whole : goal.returns-in-Record-clause-whole
returns-in-Record-clause-whole c = λ more. absurd (told-more c.in-Record.refusal (sym c.told.ensures.value ∙ more))

pub loop-taken-preserved : goal.loop-taken-preserved
loop-taken-preserved c =
    let line = c.take_line-count in
    let xs = c.args.piece.now in
    let i = c.loop-taken.taken in
    let inv = c.loop-taken.invariant in
    let feed = feed_of line.new.self.progress.completed line.result.1 in
    let more : feed ≡ More = rw c.in-Nothing.is refl in
    let none : length (given feed) ≡ 0 = rw more refl in
    record {
      within = omega (arith, line.ensures.within, c.loop-taken-test.true, length-take (length xs - i) (drop i xs), length-drop i xs);
      reads = λ t s. subst (λ (l : List ℕ). Represents line.new.self l) (to-part-end t xs i line.result.0) (rw take_rest at (line.ensures.represents (t ++ take i xs) (inv.reads t s)));
      quiet = λ t s.
          let last = rw (inv.same, take_rest) at (line.ensures.answers (t ++ take i xs) (inv.reads t s)) in
          piece-quiet c.args.self.now.progress.settings t xs i line.result.0 feed line.ensures.some (rw take_rest at line.ensures.within) more (inv.quiet t s) last;
      same = line.ensures.settings ∙ inv.same;
      cycle = omega (arith, line.ensures.next, inv.cycle, none);
      fed = omega (arith, line.ensures.bytes, inv.fed);
      open_still = line.ensures.open_still;
    }
