use Rattle.std.proofs.Common.{length, refl, sym, ap, subst, ◌∙◌, arith}
use Rattle.dp_machine.specs.Machine.{MachineValue}
use Rattle.dp_codec.specs.Spelling.{IsSpelled, all_of, state_read}
use Rattle.dp_codec.proofs.Fields.{ok_is}
use Rattle.dp_codec.proofs.Whole.{all_again, all_takes, spelling_short}
use Rattle.dp_codec.proofs.states.read_state.Goals as goal

pub set-requires : goal.set-requires
set-requires c = (all_takes c.args.m.now.plant c.args.software c.requires c.args.bytes.now c.in-Ok.state (λ i. omega (arith, c.type_inv.bytes i)) c.in-Ok.ensures).state.within

pub returns-in-Ok-clause-found : goal.returns-in-Ok-clause-found
returns-in-Ok-clause-found c =
    let found = all_takes c.args.m.now.plant c.args.software c.requires c.args.bytes.now c.in-Ok.state (λ i. omega (arith, c.type_inv.bytes i)) c.in-Ok.ensures in
    subst (IsSpelled c.args.m.now.plant c.args.software c.args.bytes.now) (sym (ap (λ (m : MachineValue). m.state) c.set.ensures)) found

pub returns-in-Ok-clause-only : goal.returns-in-Ok-clause-only
returns-in-Ok-clause-only c = λ s h.
    let again = ap (all_of c.args.m.now.plant c.args.software) h.text ∙ all_again c.args.m.now.plant c.args.software h.version s c.requires h.first h.known c.inside_is_within.ensures h.state in
    (refl, ap (λ (m : MachineValue). m.state) c.set.ensures ∙ ok_is c.in-Ok.state s (sym c.in-Ok.ensures ∙ again))

pub returns-in-Ok-clause-len : goal.returns-in-Ok-clause-len
returns-in-Ok-clause-len c =
    let found = all_takes c.args.m.now.plant c.args.software c.requires c.args.bytes.now c.in-Ok.state (λ i. omega (arith, c.type_inv.bytes i)) c.in-Ok.ensures in
    omega (arith, ap length found.text, spelling_short c.args.m.now.plant found.version c.in-Ok.state found.state)

pub returns-in-Err-clause-only : goal.returns-in-Err-clause-only
returns-in-Err-clause-only c = λ s h.
    let again = ap (all_of c.args.m.now.plant c.args.software) h.text ∙ all_again c.args.m.now.plant c.args.software h.version s c.requires h.first h.known c.inside_is_within.ensures h.state in
    absurd (cc (again, c.in-Err.ensures))

pub returns-in-Err-clause-fault : goal.returns-in-Err-clause-fault
unfolding state_read
returns-in-Err-clause-fault c = rw (c.in-Err.ensures, c.saturating_sub.ensures) refl
