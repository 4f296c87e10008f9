use Rattle.std.proofs.Common.{◌≡◌, ◌+◌, drop}
use Rattle.dp_shell.specs.Names.{place_of, texts_of}
use Rattle.dp_shell.proofs.file_shelf.place.Given as goal

-- the name is sought in what is left
abbrev pub invariant-loop-i : goal.invariant-loop-i
invariant-loop-i l = l.i + place_of (texts_of (drop l.i l.words)) l.name ≡ place_of (texts_of l.words) l.name
