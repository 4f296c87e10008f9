use Rattle.std.proofs.Common.{subst}
use Rattle.dp_frame.specs.Wires.{IsWire}
use Rattle.dp_frame.proofs.SlotSteps.{pos-noted, gyro-noted, wind-noted, group-noted}
use Rattle.dp_frame.proofs.frames.note.Goals as goal

pub returns-in-Pos-clause-noted : goal.returns-in-Pos-clause-noted
returns-in-Pos-clause-noted c = λ es was.
    rw (c.counted.ensures, c.place.ensures) (pos-noted c.args.entry.now es c.in-Pos.i _ c.args.frame.now c.in-Pos.is (subst (IsWire 8) c.in-Pos.is c.requires.wire) was)

pub returns-in-Gyro-clause-noted : goal.returns-in-Gyro-clause-noted
returns-in-Gyro-clause-noted c = λ es was.
    rw (c.counted-in-Gyro.ensures, c.heading.ensures) (gyro-noted c.args.entry.now es c.in-Gyro.i _ c.args.frame.now c.in-Gyro.is (subst (IsWire 8) c.in-Gyro.is c.requires.wire) was)

pub returns-in-Wind-clause-noted : goal.returns-in-Wind-clause-noted
returns-in-Wind-clause-noted c = λ es was.
    rw (c.counted-in-Wind.ensures, c.gust.ensures) (wind-noted c.args.entry.now es c.in-Wind.i _ c.args.frame.now c.in-Wind.is (subst (IsWire 8) c.in-Wind.is c.requires.wire) was)

pub returns-in-Group-clause-noted : goal.returns-in-Group-clause-noted
returns-in-Group-clause-noted c = λ es was.
    rw (c.counted-in-Group.ensures, c.ready.ensures) (group-noted c.args.entry.now es c.in-Group.i _ c.args.frame.now c.in-Group.is (subst (IsWire 8) c.in-Group.is c.requires.wire) was)
