use Rattle.std.proofs.Common.{◌≤◌}
use Rattle.std.specs.Io.KnownBytes.{Appends}
use Rattle.dp_app.proofs.CheckTexts.{text_so_far}
use Rattle.dp_app.proofs.check.write_cases.Given as goal

-- the first cases were written
abbrev pub invariant-loop-case : goal.invariant-loop-case
invariant-loop-case g l =
    let taken = g.K.Sink.taken in
    let faults = g.K.Sink.faults in
    record {
      written : Appends (taken l.fn.out) (taken l.out) (text_so_far l.plant.plant l.case-index);
      no_less : faults l.fn.out ≤ faults l.out;
    }
