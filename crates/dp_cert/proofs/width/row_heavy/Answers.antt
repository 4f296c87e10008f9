use Rattle.std.proofs.Common.{◌<◌, ℕ, length, sym, ap, ◌∙◌, arith, pos, FitsSigned}
use Rattle.std.specs.Prelude.{is_some}
use Rattle.std.proofs.lemmas.Int.{ints, to_z-of_z}
use mir.Syntax.{w128}
use Rattle.dp_plant.specs.Vectors.{entry}
use Rattle.dp_cert.specs.Width.{is_heavy, row_heavy}
use Rattle.dp_cert.proofs.FirstLaws.{first_none, first_some}
use Rattle.dp_cert.proofs.width.row_heavy.Goals as goal

pub returns-then-is_heavy : goal.returns-then-is_heavy
unfolding row_heavy
returns-then-is_heavy g c =
    let j = c.loop-j.j in
    let i = c.args.i in
    let es = c.args.entries.now in
    let ws = c.args.widths.now in
    let inside : j < length es = omega arith in
    let we = c.requires.entries j (pos 0) inside in
    let wi = c.requires.widths i in
    let wj = c.requires.widths j in
    let fe : FitsSigned w128 (entry es j) = omega (arith, ints) in
    let fi : FitsSigned w128 (entry ws i) = omega (arith, ints) in
    let fj : FitsSigned w128 (entry ws j) = omega (arith, ints) in
    let e = simp to_z-of_z at c.is_heavy.ensures in
    sym (ap is_some (first_some g.row.N (λ (k : ℕ). is_heavy (entry es k) (entry ws i) (entry ws k)) j (omega arith) (sym e ∙ c.if-is_heavy.true) c.loop-j.invariant))

pub returns : goal.returns
unfolding row_heavy
returns g c =
    let es = c.args.entries.now in
    let ws = c.args.widths.now in
    sym (ap is_some (first_none g.row.N (λ (k : ℕ). is_heavy (entry es k) (entry ws c.args.i) (entry ws k)) (λ k h. c.loop-j.invariant k (omega arith))))
