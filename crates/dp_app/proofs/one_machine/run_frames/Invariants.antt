use Rattle.std.proofs.Common.{◌≡◌, ◌-◌, ◌^◌, List}
use Rattle.dp_plant.specs.declared.frames.Frame.{Frame}
use Rattle.dp_frame.specs.Represents.{settings_of}
use Rattle.dp_shell.specs.{ReadsOnly}
use Rattle.dp_stream.specs.Readers.{HasGiven}
use Rattle.dp_app.specs.OneMachine.{HasRun}
use Rattle.dp_app.proofs.one_machine.run_frames.Given as goal

-- it was stepped over the frames that were given so far
abbrev pub invariant-loop-machine : goal.invariant-loop-machine
invariant-loop-machine g l = record {
  since : ReadsOnly g.F.Shelf.files g.F.Shelf.apart g.F.Shelf.faults l.fn.reader.name l.fn.shelf l.shelf;
  fs : List Frame;
  given : HasGiven (g.F.Shelf.files l.fn.shelf) l.reader fs;
  same : l.reader.lines.progress.settings ≡ settings_of l.plant;
  name : l.reader.name ≡ l.fn.reader.name;
  run : HasRun l.plant l.machine fs;
}

abbrev pub decreases-loop-machine : goal.decreases-loop-machine
decreases-loop-machine g l = 2 ^ 20 - l.machine.state.count
