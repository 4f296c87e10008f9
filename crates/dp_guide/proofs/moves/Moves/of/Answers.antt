use Rattle.std.proofs.Common.{false}
use Rattle.std.proofs.lemmas.Result.{err_from_is_err_and}
use Rattle.dp_guide.proofs.MovesReading.{stands_fault}
use Rattle.dp_guide.proofs.moves.Moves.of.Goals as goal

pub returns-in_err-hear-clause-fault : goal.returns-in_err-hear-clause-fault
returns-in_err-hear-clause-fault c =
    let p = err_from_is_err_and c.from_residual.result c.from_residual.ensures.1 in
    rw (p.1, p.2) (λ other. stands_fault c.loop-line.draft c.in-Some.line.now _ _ _ _ c.loop-line.invariant.stands c.in-Some.ensures.next (c.in_err-hear.ensures.fault other))
