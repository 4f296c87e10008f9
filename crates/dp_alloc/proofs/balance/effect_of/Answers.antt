use Rattle.std.proofs.Common.{◌≡◌, sym, ap, subst, ◌∙◌, arith, ℕ, ℤ, ◌-ℤ◌, ◌*ℤ◌, FitsSigned}
use Rattle.std.proofs.lemmas.Int.{ints, to_z-of_z}
use mir.Syntax.{w64, w128}
use Rattle.dp_plant.specs.Vectors.{entry}
use Rattle.dp_alloc.specs.Balance.{effect_of}
use Rattle.dp_alloc.proofs.balance.effect_of.Goals as goal

pub returns-else-axis-eq1-clause-value : goal.returns-else-axis-eq1-clause-value
returns-else-axis-eq1-clause-value c =
    let t = c.args.t.now in
    let two : c.args.axis ≡ 2 = omega arith in
    let p = c.pair-c.result in
    let parts = c.pair-c.ensures.parts in
    let a0 = c.requires.thruster.arm 0 in
    let a1 = c.requires.thruster.arm 1 in
    let f0 : FitsSigned w64 (entry t.at 0) = omega (arith, ints) in
    let f1 : FitsSigned w64 (entry t.at 1) = omega (arith, ints) in
    let fc : FitsSigned w64 p.0 = omega (arith, ints, parts.cosine_low, parts.cosine_high) in
    let fs : FitsSigned w64 p.1 = omega (arith, ints, parts.sine_low, parts.sine_high) in
    let fm : FitsSigned w128 c.moment.result = record { sfits = c.moment.type_inv } in
    let value = simp to_z-of_z at c.moment.ensures.value in
    let e = value ∙ ap (λ (q : ℤ × ℤ). (entry t.at 0 *ℤ q.1) -ℤ (entry t.at 1 *ℤ q.0)) c.pair-c.ensures.value in
    simp to_z-of_z (subst (λ (k : ℕ). c.moment.result ≡ entry (effect_of t) k) (sym two) e)
