use Rattle.dp_cert.proofs.SoundFacts.{five_bounded}
use Rattle.dp_cert.proofs.judge.fault_of_five.Goals as goal

pub returns-clause-bounded : goal.returns-clause-bounded
returns-clause-bounded c = λ none.
    let spans = c.list_fault.ensures.spans none in
    let made = c.first_wave_span-spans.ensures in
    five_bounded c.args.l.now (made.place spans) (made.bias spans) (made.velocity spans) (made.wave_p spans) (made.wave_q spans)
