-- Files that are held in memory.
use Rattle.std.specs.Prelude.{◌≤◌, ◌&&◌, ℕ, Bool, true, not, List, [], ◌∷◌, IsTrue, map, length, Vec, string_bytes}
use Rattle.std.specs.declared.alloc.Global.{Global}
use Rattle.std.specs.declared.string.String.{String}
use Rattle.dp_shell.specs.Names.{is_among}
use Rattle.dp_shell.specs.Texts.{Files}

-- a name and its bytes
abbrev pub File : Type 0
File = String Global × Vec ℕ Global

-- their names and texts
abbrev pub files_of : List File → Files
files_of files = map (λ file. (string_bytes file.0, file.1.items)) files

-- their names
abbrev pub names_of : List File → List (List ℕ)
names_of files = map (λ file. string_bytes file.0) files

-- no name is among those behind it
abbrev pub all_differ : List (List ℕ) → Bool
all_differ [] = true
all_differ (name ∷ names) = not (is_among names name) && all_differ names

-- at most eight files, all of different names
pub record FitsShelf (files : List File) : Type 0 where
  pub few : length files ≤ 8
  pub different : IsTrue (all_differ (names_of files))
