use Rattle.dp_cert.proofs.SoundFacts.{three_bounded}
use Rattle.dp_cert.proofs.judge.fault_of_three.Goals as goal

pub returns-clause-bounded : goal.returns-clause-bounded
returns-clause-bounded c = λ none.
    let spans = c.list_fault.ensures.spans none in
    let made = c.first_span-spans.ensures in
    three_bounded c.args.l.now (made.place spans) (made.bias spans) (made.velocity spans)
