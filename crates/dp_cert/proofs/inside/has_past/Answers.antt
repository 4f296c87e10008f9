use Rattle.std.proofs.Common.{◌<◌, ℕ, length, sym, ap, ◌∙◌, arith, pos, FitsSigned}
use Rattle.std.specs.Prelude.{is_some}
use Rattle.std.proofs.lemmas.Int.{ints, to_z-of_z}
use mir.Syntax.{w128}
use Rattle.dp_plant.specs.Vectors.{entry}
use Rattle.dp_cert.specs.CertifiedSet.{is_past, has_past}
use Rattle.dp_cert.proofs.FirstLaws.{first_none, first_some}
use Rattle.dp_cert.proofs.inside.has_past.Goals as goal

pub returns-then-is_past : goal.returns-then-is_past
unfolding has_past
returns-then-is_past g c =
    let i = c.loop-i.i in
    let x = c.args.x.now in
    let ws = c.args.widths.now in
    let inside : i < length x = omega arith in
    let hx = c.requires.x i (pos 0) inside in
    let hw = c.requires.widths i in
    let fx : FitsSigned w128 (entry x i) = omega (arith, ints, hx.low, hx.high) in
    let fw : FitsSigned w128 (entry ws i) = omega (arith, ints) in
    let e = simp to_z-of_z at c.is_past.ensures in
    sym (ap is_some (first_some g.row.N (λ (k : ℕ). is_past (entry x k) (entry ws k)) i (omega arith) (sym e ∙ c.if-is_past.true) c.loop-i.invariant))

pub returns : goal.returns
unfolding has_past
returns g c =
    let x = c.args.x.now in
    let ws = c.args.widths.now in
    sym (ap is_some (first_none g.row.N (λ (k : ℕ). is_past (entry x k) (entry ws k)) (λ k h. c.loop-i.invariant k (omega arith))))
