use Rattle.std.proofs.Common.{rules}
use Rattle.dp_machine.proofs.Wires.{sound_frame}
use Rattle.dp_machine.proofs.alarms.damaged_in.Goals as goal

pub returns-then-is_sound : goal.returns-then-is_sound
returns-then-is_sound c = sound_frame c.args.f.now (search rules)
