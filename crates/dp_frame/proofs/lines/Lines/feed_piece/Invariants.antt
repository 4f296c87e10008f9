use Rattle.std.proofs.Common.{◌≡◌, ◌+◌, ◌-◌, ◌≤◌, ◌++◌, ℕ, List, length, replicate, take}
use Rattle.dp_frame.specs.declared.feed.Feed.TheVariants.{More}
use Rattle.dp_frame.specs.Cycles.{answers_after}
use Rattle.dp_frame.specs.Represents.{IsOpen, Represents}
use Rattle.dp_frame.proofs.lines.Lines.feed_piece.Given as goal

-- the bytes so far were taken, and brought nothing
abbrev pub invariant-loop-taken : goal.invariant-loop-taken
invariant-loop-taken l =
    record {
      within : l.taken ≤ length l.piece;
      reads : (text : List ℕ) → Represents l.fn.self text → Represents l.self (text ++ take l.taken l.piece);
      quiet : (text : List ℕ) → Represents l.fn.self text
          → answers_after l.fn.self.progress.settings text (take l.taken l.piece) ≡ replicate (length (take l.taken l.piece)) More;
      same : l.self.progress.settings ≡ l.fn.self.progress.settings;
      cycle : l.self.progress.kept.cycle ≡ l.fn.self.progress.kept.cycle;
      fed : l.self.bytes ≡ l.fn.self.bytes + l.taken;
      open_still : IsOpen l.self;
    }

abbrev pub decreases-loop-taken : goal.decreases-loop-taken
decreases-loop-taken l = length l.piece - l.taken
