use Rattle.std.proofs.Common.{subst}
use Rattle.dp_machine.specs.declared.state.State.{State}
use Rattle.dp_codec.specs.Spelling.{IsPlantState}
use Rattle.dp_codec.proofs.states.write_state.Goals as goal

pub returns-clause-state : goal.returns-clause-state
returns-clause-state c =
    subst (λ (s : State). IsPlantState c.args.m.now.plant s) c.state-state.ensures.value
    (record { within = c.state-state.ensures.within; samples = c.write_with.ensures.samples; demands = c.write_with.ensures.demands })
