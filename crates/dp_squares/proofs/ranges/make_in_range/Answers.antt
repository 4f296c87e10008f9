use Rattle.std.proofs.Common.{sym}
use Rattle.dp_cert.proofs.RangeFacts.{in_range}
use Rattle.dp_squares.proofs.ranges.make_in_range.Goals as goal

pub make_cert-requires-clause-observer : goal.make_cert-requires-clause-observer
make_cert-requires-clause-observer c = (in_range c.args.g.now c.args.y.now c.args.c.now (sym c.in-None.ensures)).gains.observer

pub make_cert-requires-clause-law : goal.make_cert-requires-clause-law
make_cert-requires-clause-law c = (in_range c.args.g.now c.args.y.now c.args.c.now (sym c.in-None.ensures)).gains.law

pub make_cert-requires-clause-numbers : goal.make_cert-requires-clause-numbers
make_cert-requires-clause-numbers c = (in_range c.args.g.now c.args.y.now c.args.c.now (sym c.in-None.ensures)).numbers

pub make_cert-requires-clause-parts : goal.make_cert-requires-clause-parts
make_cert-requires-clause-parts c = (in_range c.args.g.now c.args.y.now c.args.c.now (sym c.in-None.ensures)).parts
