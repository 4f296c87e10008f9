use Rattle.std.proofs.Common.{ap, ◌∙◌, false}
use Rattle.std.proofs.lemmas.Result.{err_from_is_err_and}
use Rattle.dp_text.specs.Lines.{lines_of}
use Rattle.dp_script.specs.Faults.{instructions_of}
use Rattle.dp_script.specs.TimedActs.{acts_at}
use Rattle.dp_script.proofs.Naming.{same_cycle}
use Rattle.dp_script.proofs.Reading.{stands_fault, timed_acts_end}
use Rattle.dp_script.proofs.script.Script.of.Goals as goal

pub returns-in_err-hear-clause-fault : goal.returns-in_err-hear-clause-fault
returns-in_err-hear-clause-fault c =
    let p = err_from_is_err_and c.from_residual.result c.from_residual.ensures.1 in
    rw (p.1, p.2) (λ other. stands_fault c.loop-line.draft c.in-Some.line.now _ _ _ _ c.loop-line.invariant.stands c.in-Some.ensures.next (c.in_err-hear.ensures.fault other))

pub returns-clause-acts : goal.returns-clause-acts
returns-clause-acts c = λ cycle.
    ap (acts_at cycle) (c.into_script.ensures ∙ timed_acts_end c.loop-line.draft.script _ (lines_of false c.loop-line.rest.now) c.loop-line.invariant.timed_acts c.in_default.ensures.next)
    ∙ same_cycle cycle (instructions_of (lines_of false c.args.bytes.now))
