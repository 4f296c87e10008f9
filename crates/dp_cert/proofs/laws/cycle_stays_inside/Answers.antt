use Rattle.dp_cert.proofs.CertifiedLoops.{certified_loop}
use Rattle.dp_cert.proofs.Insides.{cycle_stays_inside}
use Rattle.dp_cert.proofs.laws.cycle_stays_inside.Goals as goal

pub returns : goal.returns
returns c = let a = c.args.a.now in let k = certified_loop a.gains a.yaw a.cert a.valid a.sound in cycle_stays_inside a.gains a.cert k
