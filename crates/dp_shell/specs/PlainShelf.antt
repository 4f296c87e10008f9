-- What a plain shelf shows.
use Rattle.std.specs.Prelude.{ℕ, List, if◌then◌else◌}
use Rattle.dp_shell.specs.MemoryFiles.{files_of}
use Rattle.dp_shell.specs.Texts.{Files, is_named}
use Rattle.dp_shell.specs.declared.plain_shelf.PlainShelf.{PlainShelf}

-- its names and texts
abbrev pub files_on : PlainShelf → Files
files_on shelf = files_of shelf.files.items

-- a name that is there never fails, and all other names share one number
abbrev pub faults_of : PlainShelf → List ℕ → ℕ
faults_of shelf name = if is_named (files_on shelf) name then 0 else shelf.missing
