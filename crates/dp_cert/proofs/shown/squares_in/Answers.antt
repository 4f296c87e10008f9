use Rattle.std.proofs.Common.{arith}
use Rattle.dp_cert.proofs.Places.{place_of}
use Rattle.dp_cert.proofs.shown.squares_in.Goals as goal

pub returns : goal.returns
returns g c = place_of c.args.lists.now c.args.i c.index-lists-i.result (omega (arith, c.type_inv.lists))
