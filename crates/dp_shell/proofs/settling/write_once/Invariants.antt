use Rattle.std.specs.Io.KnownBytes.{Keeps}
use Rattle.dp_shell.proofs.settling.write_once.Given as goal

-- an interrupted call writes nothing
abbrev pub invariant-loop : goal.invariant-loop
invariant-loop g l = Keeps (g.W.Write.contents l.fn.out) (g.W.Write.contents l.out)
