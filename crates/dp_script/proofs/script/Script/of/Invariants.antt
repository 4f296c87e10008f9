use Rattle.std.proofs.Common.{◌≡◌, ◌≤◌, ◌+◌, ◌++◌, false, length}
use Rattle.dp_text.specs.Lines.{lines_of}
use Rattle.dp_script.specs.Drafts.{IsPassed}
use Rattle.dp_script.specs.TimedActs.{timed_acts_by}
use Rattle.dp_script.proofs.Reading.{Stands}
use Rattle.dp_script.proofs.script.Script.of.Given as goal

abbrev pub invariant-loop-line : goal.invariant-loop-line
invariant-loop-line l = record {
  room : l.draft.number + length l.rest ≤ length l.bytes;
  passed : IsPassed l.draft;
  timed_acts : l.draft.script ++ timed_acts_by (lines_of false l.rest) ≡ timed_acts_by (lines_of false l.bytes);
  stands : Stands l.draft (lines_of false l.rest) (lines_of false l.bytes);
}

abbrev pub decreases-loop-line : goal.decreases-loop-line
decreases-loop-line l = length l.rest
