use Rattle.std.proofs.Common.{◌^◌, arith, FitsSigned}
use Rattle.std.proofs.lemmas.Int.{ints, to_z-of_z}
use mir.Syntax.{w128}
use Rattle.dp_cert.proofs.Fills.{wider_all}
use Rattle.dp_cert.proofs.forms.form_of.Goals as goal

pub dot_of-requires : goal.dot_of-requires
dot_of-requires g c = (
  omega (arith, c.requires.size),
  (
    c.requires.size,
    (
      wider_all (2 ^ 35) (2 ^ 40) c.args.x.now (omega arith) c.requires.vector,
      c.applied.ensures.small,
    ),
  ),
)

pub returns-clause-bound : goal.returns-clause-bound
returns-clause-bound g c =
    let f : FitsSigned w128 c.dot_of.result = record { sfits = c.dot_of.type_inv } in
    let s = c.dot_of.ensures.small (2 ^ 78) c.applied.ensures.small in
    simp to_z-of_z (omega (arith, ints, s.low, s.high))
