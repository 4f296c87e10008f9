use Rattle.dp_cert.proofs.CertifiedLoops.{certified_loop}
use Rattle.dp_cert.proofs.Twins.{forces_stay_close, twin_forces_stay_close}
use Rattle.dp_cert.proofs.laws.forces_stay_close.Goals as goal

pub returns : goal.returns
returns c = let a = c.args.a.now in let k = certified_loop a.gains a.yaw a.cert a.valid a.sound in record { close = forces_stay_close a.gains a.cert k; twins = twin_forces_stay_close a.gains a.cert k }
