use Rattle.std.proofs.Common.{arith}
use Rattle.dp_report.proofs.MaskVotes.{voted_bits}
use Rattle.dp_report.proofs.agreement.agreed_groups.Goals as goal

pub returns : goal.returns
returns c = voted_bits 8 c.args.a c.args.b c.args.c (omega arith) (omega arith) (omega arith)
