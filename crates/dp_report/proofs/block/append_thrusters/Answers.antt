use Rattle.std.proofs.Common.{arith, rules}
use Rattle.dp_report.proofs.Rows.{text_begins, text_more}
use Rattle.dp_report.proofs.block.append_thrusters.Goals as goal

pub loop-k-init : goal.loop-k-init
loop-k-init c = record { text = text_begins _; room = omega arith }

pub loop-k-preserved : goal.loop-k-preserved
loop-k-preserved c = record {
  text = text_more _ _ _ _ _ _ _ _ (omega arith) (search rules) c.loop-k.invariant.text c.append_thruster.ensures.text;
  room = omega arith;
}
