use Rattle.std.proofs.Common.{◌-◌, ◌≤◌, length, take}
use Rattle.std.specs.Io.KnownBytes.{Appends}
use Rattle.dp_shell.proofs.writing.write_all.Given as goal

-- what is done was taken
abbrev pub invariant-loop-done : goal.invariant-loop-done
invariant-loop-done g l =
    let taken = g.K.Sink.taken in
    let faults = g.K.Sink.faults in
    record {
      size : l.done ≤ length l.text;
      prefix : Appends (taken l.fn.out) (taken l.out) (take l.done l.text);
      later : faults l.fn.out ≤ faults l.out;
    }

abbrev pub decreases-loop-done : goal.decreases-loop-done
decreases-loop-done g l = length l.text - l.done
