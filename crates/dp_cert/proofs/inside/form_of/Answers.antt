use Rattle.std.proofs.Common.{◌*◌, ◌^◌, pos, ℤ, ◌*ℤ◌, sym, subst, arith, to_z, FitsSigned}
use Rattle.std.proofs.lemmas.Int.{ints, to_z-of_z}
use mir.Syntax.{w128}
use Rattle.dp_form.specs.Range.{IsWithin}
use Rattle.dp_plant.specs.Vectors.{entry}
use Rattle.dp_cert.proofs.Lights.{light_more}
use Rattle.dp_cert.proofs.inside.form_of.Goals as goal

pub part-requires : goal.part-requires
part-requires g c =
    let i = c.loop-i.i in
    let x = c.args.x.now in
    let hx = c.requires.light.vector i (pos 0) (omega (arith, c.told-x, c.loop-i-test.true)) in
    let fx : FitsSigned w128 (entry x i) = omega (arith, ints, hx.low, hx.high) in
    let fd : FitsSigned w128 c.dot_of.result = record { sfits = c.dot_of.type_inv } in
    simp to_z-of_z (subst (λ (z : ℤ). IsWithin (5 * 2 ^ 120) (entry x i *ℤ z)) (sym c.dot_of.ensures.value) (c.requires.light.parts i c.loop-i-test.true c.dot_of.ensures.wide))

pub loop-i-preserved : goal.loop-i-preserved
loop-i-preserved g c =
    let inv = c.loop-i.invariant in
    let i = c.loop-i.i in
    let x = c.args.x.now in
    let s = to_z w128 c.loop-i.sum-bits in
    let hx = c.requires.light.vector i (pos 0) (omega (arith, c.told-x, c.loop-i-test.true)) in
    let fx : FitsSigned w128 (entry x i) = omega (arith, ints, hx.low, hx.high) in
    let fs : FitsSigned w128 s = omega (arith, ints, inv.bound.low, inv.bound.high, c.requires.few, c.loop-i-test.true) in
    let fd : FitsSigned w128 c.dot_of.result = record { sfits = c.dot_of.type_inv } in
    let fp : FitsSigned w128 c.part.result = record { sfits = c.part.type_inv } in
    let fa : FitsSigned w128 c.added-sum.result = record { sfits = c.added-sum.type_inv } in
    let part = simp to_z-of_z at c.part.ensures.value in
    let added = simp to_z-of_z at c.added-sum.ensures.value in
    let bound = c.added-sum.ensures.bound in
    record {
      is = simp to_z-of_z (light_more c.args.p.now x i s c.added-sum.result c.part.result c.dot_of.result (omega (arith, c.told-x, c.loop-i-test.true)) inv.is c.dot_of.ensures.value part added);
      bound = simp to_z-of_z bound;
    }
