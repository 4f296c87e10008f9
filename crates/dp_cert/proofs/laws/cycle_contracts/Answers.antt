use Rattle.dp_cert.proofs.CertifiedLoops.{certified_loop}
use Rattle.dp_cert.proofs.Twins.{cycle_contracts}
use Rattle.dp_cert.proofs.laws.cycle_contracts.Goals as goal

pub returns : goal.returns
returns c = let a = c.args.a.now in let k = certified_loop a.gains a.yaw a.cert a.valid a.sound in cycle_contracts a.gains a.cert k
