use Rattle.std.proofs.Common.{◌≡◌, ◌<◌, ◌^◌, pos, length, arith, ℤ, FitsSigned, to_z, of_z, ap, ◌∙◌, sym, subst, below_more}
use Rattle.std.proofs.lemmas.Int.{ints, to_z-of_z}
use Rattle.std.proofs.lemmas.List.{length-set}
use mir.Syntax.{w64, w128}
use Rattle.dp_form.specs.Vectors.{row}
use Rattle.dp_form.specs.Residual.{residual}
use Rattle.dp_form.specs.Range.{IsWithin}
use Rattle.dp_form.specs.Made.{part, parts}
use Rattle.dp_form.proofs.Entries.{place}
use Rattle.dp_form.proofs.Sizes.{length-row_residual}
use Rattle.dp_form.proofs.MadeLaws.{any_default, filled, is_small, length_parts, place_parts, small_given, vector_none, vector_some}
use Rattle.dp_form.proofs.maker.vector.Goals as goal

pub returns-in_err-l-clause-value : goal.returns-in_err-l-clause-value
returns-in_err-l-clause-value g c =
    let fd = c.ranges.d in
    let fs = c.ranges.scale in
    let e = c.left_at.ensures in
    let fl : FitsSigned w128 c.left_at.result = record { sfits = c.left_at.type_inv } in
    let fp : FitsSigned w128 c.part.result = record { sfits = c.part.type_inv } in
    let r = row (residual c.args.s.now.at c.args.w.now.list.items) c.args.i in
    let wide : length r ≡ g.row.N = length-row_residual c.args.s.now.at c.args.w.now.list.items c.args.i c.requires.i_in e.row_wide e.squares_wide in
    let value = simp to_z-of_z at c.in_err-l.ensures.value in
    let p = simp to_z-of_z at c.part.ensures in
    let v : c.part.result ≡ part c.args.i c.args.d c.args.scale c.loop-j.j (place r c.loop-j.j) = p ∙ ap (λ (z : ℤ). part c.args.i c.args.d c.args.scale c.loop-j.j z) e.value in
    vector_none c.args.i c.args.d c.args.scale r c.loop-j.j c.part.result c.from_residual.result (omega (arith, wide, c.loop-j-test.true)) v value c.from_residual.ensures

pub loop-j-preserved : goal.loop-j-preserved
loop-j-preserved g c =
    let fd = c.ranges.d in
    let fs = c.ranges.scale in
    let inv = c.loop-j.invariant in
    let i = c.args.i in
    let j = c.loop-j.j in
    let e = c.left_at.ensures in
    let d = to_z w128 (of_z w128 c.args.d) in
    let s = to_z w128 (of_z w128 c.args.scale) in
    let fl : FitsSigned w128 c.left_at.result = record { sfits = c.left_at.type_inv } in
    let fp : FitsSigned w128 c.part.result = record { sfits = c.part.type_inv } in
    let r = row (residual c.args.s.now.at c.args.w.now.list.items) i in
    let wide : length r ≡ g.row.N = length-row_residual c.args.s.now.at c.args.w.now.list.items i c.requires.i_in e.row_wide e.squares_wide in
    let value = simp to_z-of_z at c.in_ok-l.ensures.value in
    let size : IsWithin (2 ^ 40) c.in_ok-l.field-0 = c.in_ok-l.ensures.size in
    let f : FitsSigned w64 c.in_ok-l.field-0 = omega (arith, ints, size) in
    let x = to_z w64 (of_z w64 c.in_ok-l.field-0) in
    let same : x ≡ c.in_ok-l.field-0 = to_z-of_z w64 c.in_ok-l.field-0 f in
    let got = small_given c.part.result c.in_ok-l.field-0 value in
    let v : c.part.result ≡ part i d s j (place r j) = c.part.ensures ∙ ap (λ (z : ℤ). part i d s j z) (to_z-of_z w128 c.left_at.result fl ∙ e.value) in
    let here : place (parts i d s 0 r) j ≡ c.part.result = place_parts i d s r j (omega (arith, wide, c.loop-j-test.true)) ∙ sym v in
    let inside : j < length c.loop-j.l = omega (arith, inv.long, c.loop-j-test.true) in
    record {
      long = length-set c.loop-j.l j x ∙ inv.long;
      is = filled (λ k z. z ≡ place (parts i d s 0 r) k) c.loop-j.l j x inside inv.is (same ∙ got.1 ∙ sym here);
      fits = below_more _ _ inv.fits (ap (λ (z : ℤ). is_small z) here ∙ got.0);
      within = filled (λ k z. IsWithin (2 ^ 40) z) c.loop-j.l j x inside inv.within (subst (IsWithin (2 ^ 40)) (sym same) size);
      wide = λ k h. wide;
    }

pub returns-clause-value : goal.returns-clause-value
returns-clause-value g c =
    let fd = c.ranges.d in
    let fs = c.ranges.scale in
    let inv = c.loop-j.invariant in
    let d = to_z w128 (of_z w128 c.args.d) in
    let s = to_z w128 (of_z w128 c.args.scale) in
    let r = row (residual c.args.s.now.at c.args.w.now.list.items) c.args.i in
    let wide : length r ≡ g.row.N = inv.wide 0 (omega (arith, c.requires.i_in, c.loop-j-test.false)) in
    let long : length (parts c.args.i d s 0 r) ≡ g.row.N = length_parts c.args.i d s 0 r ∙ wide in
    let all = vector_some c.loop-j.l (parts c.args.i d s 0 r) (inv.long ∙ sym long)
    (λ k h. inv.is k (omega (arith, h, inv.long, c.loop-j-test.false)))
    (λ k h. inv.fits k (omega (arith, h, long, c.loop-j-test.false))) in
    simp to_z-of_z at all

pub returns-clause-size : goal.returns-clause-size
returns-clause-size g c =
    let inv = c.loop-j.invariant in
    λ k d h. subst (IsWithin (2 ^ 40)) (any_default c.loop-j.l k (pos 0) d h) (inv.within k (omega (arith, h, inv.long, c.loop-j-test.false)))
