-- What a memory shelf shows.
use Rattle.std.specs.Prelude.{ℕ, List}
use Rattle.dp_shell.specs.MemoryFiles.{files_of, names_of}
use Rattle.dp_shell.specs.Names.{counted}
use Rattle.dp_shell.specs.Texts.{Files}
use Rattle.dp_shell.specs.declared.memory_shelf.MemoryShelf.{MemoryShelf}

-- its names and texts
abbrev pub files_on : MemoryShelf → Files
files_on shelf = files_of shelf.files.items

-- the number of each name, and of all that are missing
abbrev pub faults_of : MemoryShelf → List ℕ → ℕ
faults_of shelf = counted shelf.counts (names_of shelf.files.items)

-- the numbers of the calls that fail
abbrev pub failing_calls : MemoryShelf → List ℕ
failing_calls shelf = shelf.failing.items

-- the number of the last call, 0 before the first
abbrev pub last_call : MemoryShelf → ℕ
last_call shelf = shelf.calls

-- the most bytes that a call copies
abbrev pub step_of : MemoryShelf → ℕ
step_of shelf = shelf.step
