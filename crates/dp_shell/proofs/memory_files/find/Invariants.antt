use Rattle.std.proofs.Common.{◌≡◌, drop}
use Rattle.dp_shell.specs.MemoryFiles.{files_of}
use Rattle.dp_shell.specs.Texts.{text_named}
use Rattle.dp_shell.proofs.memory_files.find.Given as goal

-- the name is sought in what is left
abbrev pub invariant-loop-file : goal.invariant-loop-file
invariant-loop-file l = text_named (files_of (drop l.file-index l.files)) l.name ≡ text_named (files_of l.files) l.name
