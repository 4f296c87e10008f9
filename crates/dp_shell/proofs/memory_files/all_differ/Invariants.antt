use Rattle.std.proofs.Common.{◌≡◌, drop}
use Rattle.dp_shell.specs.MemoryFiles.{all_differ, names_of}
use Rattle.dp_shell.proofs.memory_files.all_differ.Given as goal

-- what is left decides
abbrev pub invariant-loop-i : goal.invariant-loop-i
invariant-loop-i l = all_differ (names_of (drop l.i l.files)) ≡ all_differ (names_of l.files)
