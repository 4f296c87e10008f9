use Rattle.std.specs.Io.KnownBytes.{Keeps}
use Rattle.dp_shell.proofs.settling.read_once.Given as goal

-- an interrupted call reads nothing
abbrev pub invariant-loop : goal.invariant-loop
invariant-loop g l = Keeps (g.R.Read.remaining l.fn.file) (g.R.Read.remaining l.file)
