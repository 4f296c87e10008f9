use Rattle.std.proofs.Common.{◌≡◌, ◌++◌, map, take}
use Rattle.dp_report.specs.Text.{mode_letter}
use Rattle.dp_report.proofs.text.append_letters.Given as goal

abbrev pub invariant-loop-mode : goal.invariant-loop-mode
invariant-loop-mode l = l.into.items ≡ l.initial.into.items ++ map mode_letter (take l.mode-index l.modes)
