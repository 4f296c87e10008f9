use Rattle.dp_tests_control.proofs.exchange.hear.Goals as goal

pub hear-requires-clause-within : goal.hear-requires-clause-within
hear-requires-clause-within c d = d.frame-f.ensures.range d.args.computer.now.plant.groups
