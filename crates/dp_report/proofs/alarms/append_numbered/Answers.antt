use Rattle.std.proofs.Common.{arith}
use Rattle.dp_report.proofs.Numbered.{none_numbered, numbered_more}
use Rattle.dp_report.proofs.alarms.append_numbered.Goals as goal

pub loop-k-init : goal.loop-k-init
loop-k-init c = record { text = none_numbered _ _ _ _; room = omega arith }

pub loop-k-preserved : goal.loop-k-preserved
loop-k-preserved c = record {
  text = numbered_more _ _ _ _ _ _ _ c.loop-k.invariant.text (rw (c.is_set.ensures, c.from.ensures) at c.append_numbered_line.ensures.text);
  room = omega arith;
}
