use Rattle.dp_cert.proofs.CertifiedLoops.{certified_loop}
use Rattle.dp_cert.proofs.Insides.{rest_is_inside}
use Rattle.dp_cert.proofs.laws.rest_is_inside.Goals as goal

pub returns : goal.returns
returns c = let a = c.args.a.now in let k = certified_loop a.gains a.yaw a.cert a.valid a.sound in rest_is_inside a.gains a.cert k
