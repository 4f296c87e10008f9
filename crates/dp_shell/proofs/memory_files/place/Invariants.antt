use Rattle.std.proofs.Common.{◌≡◌, ◌+◌, drop}
use Rattle.dp_shell.specs.MemoryFiles.{names_of}
use Rattle.dp_shell.specs.Names.{place_of}
use Rattle.dp_shell.proofs.memory_files.place.Given as goal

-- the name is sought in what is left
abbrev pub invariant-loop-i : goal.invariant-loop-i
invariant-loop-i l = l.i + place_of (names_of (drop l.i l.files)) l.name ≡ place_of (names_of l.files) l.name
