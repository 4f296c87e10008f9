use Rattle.dp_cert.proofs.SoundFacts.{sound_three, sound_five}
use Rattle.dp_cert.proofs.judge.first_fault.Goals as goal

pub returns-in-Three-clause-sound : goal.returns-in-Three-clause-sound
returns-in-Three-clause-sound c = λ none.
    sound_three c.args.g.now c.args.c.now _ c.in-Three.is (c.fault_of_three.ensures.sound none) (c.fault_of_three.ensures.bounded none)

pub returns-in-Five-clause-sound : goal.returns-in-Five-clause-sound
returns-in-Five-clause-sound c = λ none.
    sound_five c.args.g.now c.args.c.now _ c.in-Five.is (c.fault_of_five.ensures.sound none) (c.fault_of_five.ensures.bounded none)
