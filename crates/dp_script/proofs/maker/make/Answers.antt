use Rattle.std.proofs.Common.{arith}
use Rattle.dp_script.proofs.Making.{line_cut_short, line_taken, none_taken, on_err}
use Rattle.dp_script.proofs.maker.make.Goals as goal

pub loop-maker-init : goal.loop-maker-init
loop-maker-init g c = record {
  taken = none_taken _ c.args.number _ c.new-maker.ensures;
  later = omega arith;
}

pub loop-maker-preserved : goal.loop-maker-preserved
loop-maker-preserved g c = record {
  taken = line_taken _ _ _ _ _ _ _ c.loop-maker.invariant.taken c.loop-maker-test.ensures.next
      (rw c.deref.ensures.0 at c.in_ok-write_all.ensures.ok);
  later = omega (arith, c.loop-maker.invariant.later, c.write_all.ensures.cause.later);
}

pub returns-in_err-write_all-clause-err : goal.returns-in_err-write_all-clause-err
returns-in_err-write_all-clause-err g c = on_err c.from_residual.result _
    (line_cut_short _ _ _ _ _ _ _ c.loop-maker.invariant.taken c.loop-maker-test.ensures.next
    (rw c.deref.ensures.0 at c.in_err-write_all.ensures.err))
