use Rattle.std.proofs.Common.{arith}
use Rattle.dp_shell.proofs.Taken.{appends_more}
use Rattle.dp_shell.proofs.writing.write_all.Goals as goal

pub loop-done-preserved : goal.loop-done-preserved
loop-done-preserved g c = record {
  size = omega (arith, c.in_ok-count.ensures.bound);
  prefix = appends_more _ _ _ c.args.text.now c.loop-done.done c.in_ok-count.count
      c.loop-done.invariant.prefix c.in_ok-count.ensures.taken;
  later = omega (arith, c.loop-done.invariant.later, c.in_ok-count.ensures.cause.later);
}
