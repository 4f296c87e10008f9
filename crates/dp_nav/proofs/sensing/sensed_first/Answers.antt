use Rattle.std.proofs.Common.{ap, ◌∙◌}
use Rattle.dp_nav.specs.Sensed.{sensed_of}
use Rattle.dp_nav.proofs.FirstFields.{sensed-first}
use Rattle.dp_nav.proofs.sensing.sensed_first.Goals as goal

pub returns-clause-value : goal.returns-clause-value
returns-clause-value c = λ all is.
    c.sensed_by.ensures.value ∙ ap (sensed_of c.args.kind c.args.formatter.now) is ∙ sensed-first c.args.kind c.args.formatter.now all
