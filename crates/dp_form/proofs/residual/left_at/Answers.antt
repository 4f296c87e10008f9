use Rattle.std.proofs.Common.{◌≡◌, ◌≤◌, length, take, arith, ap, ◌∙◌, sym, subst, ℤ, ◌-ℤ◌, FitsSigned, to_z, List, ◌<◌}
use Rattle.std.proofs.lemmas.Int.{ints, to_z-of_z}
use Rattle.std.proofs.lemmas.List.{take_all}
use Rattle.std.specs.Prelude.{All, slice_index_or}
use mir.Syntax.{w128}
use Rattle.dp_form.specs.Vectors.{entry}
use Rattle.dp_form.specs.Residual.{residual}
use Rattle.dp_form.specs.declared.Square.{Square}
use Rattle.dp_form.proofs.Entries.{entry-residual_more, All-take_more}
use Rattle.dp_form.proofs.residual.left_at.Goals as goal

pub loop-square-preserved : goal.loop-square-preserved
loop-square-preserved g c =
    let inv = c.loop-square.invariant in
    let items = c.args.w.now.list.items in
    let k = c.loop-square.square-index in
    let q = c.square-item.result in
    let here : k < length items = subst (λ (xs : List (Square g.row.N)). k < length xs) c.as_slice-square-items.ensures.value c.loop-square-test.true in
    let same : q ≡ slice_index_or items k q = c.square-item.is ∙ ap (λ (xs : List (Square g.row.N)). slice_index_or xs k q) c.as_slice-square-items.ensures.value in
    let fits = c.as_slice-square-items.ensures.fits in
    let t = c.taken-left.ensures in
    let ft : FitsSigned w128 c.taken-left.result = record { sfits = c.taken-left.type_inv } in
    let old = to_z w128 c.loop-square.left-bits in
    let fn : FitsSigned w128 (old -ℤ c.taken-left.result) = omega (arith, ints) in
    let more = entry-residual_more c.args.s.now.at items k q c.args.i c.args.j here same in
    record {
      is = simp to_z-of_z (ap (λ (z : ℤ). z -ℤ c.taken-left.result) inv.is ∙ ap (λ (z : ℤ). entry (residual c.args.s.now.at (take k items)) c.args.i c.args.j -ℤ z) t.value ∙ sym more);
      small = simp to_z-of_z (record { low = omega (arith, ints); high = omega (arith, ints) });
      wide = All-take_more (λ (z : Square g.row.N). length z.l ≡ g.row.N) items k q here same inv.wide t.wide;
    }

pub returns-clause-squares_wide : goal.returns-clause-squares_wide
returns-clause-squares_wide g c =
    let items = c.args.w.now.list.items in
    let k = c.loop-square.square-index in
    let value = c.as_slice-square-items.ensures.value in
    let past : length items ≤ k = subst (λ (xs : List (Square g.row.N)). length xs ≤ k) value c.loop-square-test.false in
    subst (All (λ (q : Square g.row.N). length q.l ≡ g.row.N)) (take_all k items past) c.loop-square.invariant.wide
