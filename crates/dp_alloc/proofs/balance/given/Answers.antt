use Rattle.std.proofs.Common.{◌<◌, length, arith, ap₂, ◌∙◌, ℤ, ◌*ℤ◌, FitsSigned}
use Rattle.std.proofs.lemmas.Int.{ints, to_z-of_z}
use mir.Syntax.{w64, w128}
use Rattle.dp_alloc.proofs.Effects.{given_more}
use Rattle.dp_alloc.proofs.balance.given.Goals as goal

pub loop-k-preserved : goal.loop-k-preserved
loop-k-preserved c =
    let ts = c.args.thrusters.now in
    let rows = c.args.rows.now in
    let k = c.loop-k.k in
    let row_in : k < length rows = omega arith in
    let thruster_in : k < length ts = omega (arith, c.requires.same) in
    let fs : FitsSigned w64 c.share_of-share.result = record { sfits = c.share_of-share.type_inv } in
    let fe : FitsSigned w128 c.effect_of.result = record { sfits = c.effect_of.type_inv } in
    let ft : FitsSigned w128 c.times.result = record { sfits = c.times.type_inv } in
    let more = given_more c.args.axis c.args.column ts rows k thruster_in row_in in
    let value = simp to_z-of_z at c.times.ensures.value in
    let product = value ∙ ap₂ (λ (e s : ℤ). e *ℤ s) c.effect_of.ensures.value c.share_of-share.ensures.value in
    let small = simp to_z-of_z at c.times.ensures.bound in
    let e = c.effect_of.ensures.bound in
    record { is = omega (arith, ints); small = omega (arith, ints) }
