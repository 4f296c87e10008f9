use Rattle.dp_cert.proofs.CertifiedLoops.{certified_loop}
use Rattle.dp_cert.proofs.Insides.{inside_is_narrow, inside_is_within}
use Rattle.dp_cert.proofs.laws.inside_is_narrow.Goals as goal

pub returns : goal.returns
returns c = let a = c.args.a.now in let k = certified_loop a.gains a.yaw a.cert a.valid a.sound in record { narrow = inside_is_narrow a.gains a.cert k; within = inside_is_within a.gains a.yaw a.cert k a.valid }
