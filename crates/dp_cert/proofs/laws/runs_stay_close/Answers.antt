use Rattle.dp_cert.proofs.CertifiedLoops.{certified_loop}
use Rattle.dp_cert.proofs.Twins.{same_is_close, runs_stay_close}
use Rattle.dp_cert.proofs.laws.runs_stay_close.Goals as goal

pub returns : goal.returns
returns c = let a = c.args.a.now in let k = certified_loop a.gains a.yaw a.cert a.valid a.sound in record { start = same_is_close a.cert; cycles = runs_stay_close a.gains a.cert k }
