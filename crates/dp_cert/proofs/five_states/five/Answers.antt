use Rattle.std.proofs.Common.{◌^◌, to_z, of_z}
use Rattle.std.proofs.lemmas.Int.{to_z-of_z}
use mir.Syntax.{w128}
use Rattle.dp_form.specs.Range.{IsWithin}
use Rattle.dp_form.proofs.Literals.{vector5}
use Rattle.dp_cert.proofs.five_states.five.Goals as goal

pub returns-clause-small : goal.returns-clause-small
returns-clause-small c =
    let fa = c.ranges.a in let fb = c.ranges.b in let fc = c.ranges.c in let fd = c.ranges.d in let fe = c.ranges.e in
    let ka : IsWithin (2 ^ 35) (to_z w128 (of_z w128 c.args.a)) = simp to_z-of_z c.requires.a in
    let kb : IsWithin (2 ^ 35) (to_z w128 (of_z w128 c.args.b)) = simp to_z-of_z c.requires.b in
    let kc : IsWithin (2 ^ 35) (to_z w128 (of_z w128 c.args.c)) = simp to_z-of_z c.requires.c in
    let kd : IsWithin (2 ^ 35) (to_z w128 (of_z w128 c.args.d)) = simp to_z-of_z c.requires.d in
    let ke : IsWithin (2 ^ 35) (to_z w128 (of_z w128 c.args.e)) = simp to_z-of_z c.requires.e in
    vector5 (2 ^ 35) (to_z w128 (of_z w128 c.args.a)) (to_z w128 (of_z w128 c.args.b)) (to_z w128 (of_z w128 c.args.c))
    (to_z w128 (of_z w128 c.args.d)) (to_z w128 (of_z w128 c.args.e)) ka kb kc kd ke
