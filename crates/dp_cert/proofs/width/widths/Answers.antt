use Rattle.std.proofs.Common.{◌≡◌, ◌<◌, ◌^◌, ℕ, ℤ, length, sym, ap, ◌∙◌, arith, pos, below_more, FitsSigned}
use Rattle.std.proofs.lemmas.Int.{ints, to_z-of_z}
use Rattle.std.proofs.lemmas.List.{length-set}
use mir.Syntax.{w64, w128}
use Rattle.std.specs.Prelude.{map}
use Rattle.dp_plant.specs.Vectors.{entry}
use Rattle.dp_cert.specs.InRange.{IsUpTo}
use Rattle.dp_cert.specs.Width.{width, is_wide, first_wide}
use Rattle.dp_cert.proofs.FirstLaws.{first_none, first_some}
use Rattle.dp_cert.proofs.Tables.{write_more}
use Rattle.dp_cert.proofs.Widths.{some_of, none_of, mapped, at-map, all_upto}
use Rattle.dp_cert.proofs.width.widths.Goals as goal

pub loop-i-preserved : goal.loop-i-preserved
loop-i-preserved g c =
    let inv = c.loop-i.invariant in
    let i = c.loop-i.i in
    let n = c.args.n in
    let span = c.args.span.now in
    let here : i < length c.loop-i.widths = omega (arith, inv.wide) in
    let fn = c.ranges.n in
    let up = c.requires.span i in
    let fs : FitsSigned w64 (entry span i) = omega (arith, ints) in
    let fl : FitsSigned w128 (entry span i) = omega (arith, ints) in
    let value = simp to_z-of_z at c.width.ensures.value in
    let is = simp to_z-of_z at inv.is in
    let narrow = simp to_z-of_z at inv.narrow in
    let found = some_of _ _ _ (sym c.in-Some.is ∙ value) in
    let small = rw c.in-Some.is at c.width.ensures.bound in
    let fw : FitsSigned w128 c.in-Some.w = omega (arith, ints) in
    simp to_z-of_z (record {
      wide = length-set c.loop-i.widths i c.in-Some.w ∙ inv.wide;
      is = write_more (pos 0) (λ (k : ℕ) (z : ℤ). z ≡ width n (entry span k)) c.loop-i.widths i c.in-Some.w here is found.0;
      narrow = below_more _ _ narrow found.1;
      bound = write_more (pos 0) (λ (k : ℕ) (z : ℤ). IsUpTo (pos (2 ^ 56)) z) c.loop-i.widths i c.in-Some.w here inv.bound small;
    })

pub returns-in-None-clause-wide : goal.returns-in-None-clause-wide
unfolding first_wide
returns-in-None-clause-wide g c =
    let inv = c.loop-i.invariant in
    let i = c.loop-i.i in
    let n = c.args.n in
    let span = c.args.span.now in
    let fn = c.ranges.n in
    let up = c.requires.span i in
    let fs : FitsSigned w64 (entry span i) = omega (arith, ints) in
    let fl : FitsSigned w128 (entry span i) = omega (arith, ints) in
    let value = simp to_z-of_z at c.width.ensures.value in
    let narrow = simp to_z-of_z at inv.narrow in
    let wide = none_of _ _ (sym c.in-None.is ∙ value) in
    let read = λ (k : ℕ) (h : k < length span). ap is_wide (at-map (width n) span k h) in
    first_some g.row.N (λ (k : ℕ). is_wide (entry (map (width n) span) k)) i (omega arith) (read i (omega arith) ∙ wide) (λ k h. read k (omega arith) ∙ narrow k h)

pub returns-clause-none : goal.returns-clause-none
unfolding first_wide
returns-clause-none g c =
    let inv = c.loop-i.invariant in
    let n = c.args.n in
    let span = c.args.span.now in
    let fn = c.ranges.n in
    let narrow = simp to_z-of_z at inv.narrow in
    first_none g.row.N (λ (k : ℕ). is_wide (entry (map (width n) span) k)) (λ k h. ap is_wide (at-map (width n) span k (omega arith)) ∙ narrow k (omega arith))

pub returns-clause-value : goal.returns-clause-value
returns-clause-value g c =
    let inv = c.loop-i.invariant in
    let fn = c.ranges.n in
    let is = simp to_z-of_z at inv.is in
    mapped (width c.args.n) c.args.span.now c.loop-i.widths (omega (arith, inv.wide)) (λ k h. is k (omega arith))

pub returns-clause-bound : goal.returns-clause-bound
returns-clause-bound g c =
    let inv = c.loop-i.invariant in
    all_upto (pos (2 ^ 56)) c.loop-i.widths g.row.N (omega (arith, ints)) inv.wide (λ k h. inv.bound k (omega arith))
