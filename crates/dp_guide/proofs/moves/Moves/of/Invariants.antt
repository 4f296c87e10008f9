use Rattle.std.proofs.Common.{◌≡◌, ◌≤◌, ◌+◌, ◌++◌, false, length}
use Rattle.dp_text.specs.{lines_of}
use Rattle.dp_guide.specs.Moves.{moves_of}
use Rattle.dp_guide.specs.MovesDrafts.{IsPassed}
use Rattle.dp_guide.proofs.MovesReading.{Stands}
use Rattle.dp_guide.proofs.moves.Moves.of.Given as goal

abbrev pub invariant-loop-line : goal.invariant-loop-line
invariant-loop-line l = record {
  room : l.draft.number + length l.rest ≤ length l.bytes;
  passed : IsPassed l.draft;
  moves : l.draft.moves ++ moves_of (lines_of false l.rest) ≡ moves_of (lines_of false l.bytes);
  stands : Stands l.draft (lines_of false l.rest) (lines_of false l.bytes);
}

abbrev pub decreases-loop-line : goal.decreases-loop-line
decreases-loop-line l = length l.rest
