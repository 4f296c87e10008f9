use Rattle.std.proofs.Common.{◌≡◌, [], ◌++◌, ℕ, List, length, refl, subst, rules}
use Rattle.dp_shell.proofs.Taken.{cut_before}
use Rattle.dp_app.specs.Check.{cases_text}
use Rattle.dp_app.specs.FaultLines.{end_line}
use Rattle.dp_app.specs.Written.{HasWritten, NoReadFailed}
use Rattle.dp_app.proofs.CheckTexts.{whole_check}
use Rattle.dp_app.proofs.check.write_check.Goals as goal

pub returns-in-Ok-clause-written : goal.returns-in-Ok-clause-written
returns-in-Ok-clause-written g c =
    let p = c.args.plant.now.plant in
    let old = g.K.Sink.taken c.args.out.now in
    let text : c.deref.result.now ≡ end_line (length p.cases.items) = search rules in
    subst (λ (l : List ℕ). HasWritten NoReadFailed [] l c.write_last.result old (g.K.Sink.taken c.write_last.new.out)) (whole_check p c.deref.result.now text)
    (c.write_last.ensures.written old (cases_text p) c.in-Ok.ensures.ok)

pub returns-in-Err-clause-written : goal.returns-in-Err-clause-written
returns-in-Err-clause-written g c =
    let p = c.args.plant.now.plant in
    let old = g.K.Sink.taken c.args.out.now in
    let mid = g.K.Sink.taken c.write_cases.new.out in
    subst (λ (l : List ℕ). HasWritten NoReadFailed [] l c.stop.result old (g.K.Sink.taken c.stop.new.out)) (whole_check p (end_line (length p.cases.items)) refl)
    (c.stop.ensures.written old (cases_text p ++ end_line (length p.cases.items))
    (cut_before old mid (cases_text p) (end_line (length p.cases.items)) c.in-Err.ensures.err))
