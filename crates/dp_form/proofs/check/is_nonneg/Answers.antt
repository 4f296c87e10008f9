use Rattle.std.proofs.Common.{inl, inr, ◌≡◌, ◌<◌, length, below_more, arith}
use Rattle.std.proofs.lemmas.Int.{ints}
use Rattle.dp_form.specs.Form.{HasSize}
use Rattle.dp_form.proofs.Shown.{has_size, shown_nonneg}
use Rattle.dp_form.proofs.check.is_nonneg.Goals as goal

pub loop-row-preserved : goal.loop-row-preserved
loop-row-preserved g c =
    let inv = c.loop-row.invariant in
    let e = c.shortfall_of-short.ensures in
    record {
      none_short = below_more _ _ inv.none_short (omega (arith, ints));
      rows_wide = below_more _ _ inv.rows_wide e.row_wide;
      squares_wide = λ _. e.squares_wide;
    }

pub returns-clause-nonneg : goal.returns-clause-nonneg
returns-clause-nonneg g c =
    let inv = c.loop-row.invariant in
    let over = c.loop-row-test.false in
    let some : 0 < c.loop-row.row = elim c.requires.size [ inl three ↦ omega arith | inr five ↦ omega arith ] in
    let tall : length c.args.s.now.at ≡ g.row.N = omega arith in
    let size : HasSize g.row.N c.args.s.now.at = has_size g.row.N c.args.s.now.at tall (λ k h. inv.rows_wide k (omega arith)) in
    shown_nonneg c.args.s.now.at c.args.w.now.list.items size (inv.squares_wide some) (λ k d h. (c.requires.squares k d h).weight_low) c.requires.symmetric (λ k h. inv.none_short k (omega arith))
