use Rattle.std.proofs.Common.{◌≡◌, ◌<◌, ◌≤◌, length, ap, ◌∙◌, arith, pos, ℤ, ◌+ℤ◌, ◌-ℤ◌, FitsSigned, to_z}
use Rattle.std.specs.Int.RustNames.{unsigned_abs}
use Rattle.std.proofs.lemmas.Int.{ints, to_z-of_z}
use Rattle.dp_form.specs.Vectors.{row}
use Rattle.dp_form.specs.Residual.{residual}
use Rattle.std.specs.Prelude.{sum_by}
use Rattle.std.specs.List.{remove}
use mir.Syntax.{w128}
use Rattle.dp_form.proofs.Entries.{place}
use Rattle.dp_form.proofs.Sizes.{length-row_residual}
use Rattle.dp_form.proofs.Rest.{step_before, step_after, step_at, all_rest}
use Rattle.dp_form.proofs.check.shortfall_of.Goals as goal
use Rattle.dp_form.proofs.check.shortfall_of.Goals.{then-j-i, else-j-i}

pub loop-j-preserved : goal.loop-j-preserved
loop-j-preserved g c =
    let inv = c.loop-j.invariant in
    let d = c.left_at-diagonal.ensures in
    let left = residual c.args.s.now.at c.args.w.now.list.items in
    let i = c.args.i in
    let j = c.loop-j.j in
    let r = row left i in
    let wide : length r ≡ g.row.N = length-row_residual c.args.s.now.at c.args.w.now.list.items i c.requires.i_in d.row_wide d.squares_wide in
    let j_in : j < length r = omega arith in
    elim c.if-j-i.branch [
      | then-j-i w ↦
          let fe : FitsSigned w128 w.left_at.result = record { sfits = w.left_at.type_inv } in
          let v : w.abs-rest.result ≡ pos (unsigned_abs (place r j)) = w.abs-rest.ensures.value ∙ ap (λ (z : ℤ). pos (unsigned_abs z)) (to_z-of_z w128 w.left_at.result fe ∙ w.left_at.ensures.value) in
          let b = w.left_at.ensures.small in
          let new : to_z w128 c.if-j-i.rest-bits ≡ to_z w128 c.loop-j.rest-bits +ℤ pos (unsigned_abs (place r j)) = omega (arith, ints) in
          record {
            before = λ h. step_before r i j (to_z w128 c.loop-j.rest-bits) (to_z w128 c.if-j-i.rest-bits) j_in (inv.before (omega arith)) new;
            after = λ h. let past : i < j = omega (arith, w.if-j-i) in step_after r i j (to_z w128 c.loop-j.rest-bits) (to_z w128 c.if-j-i.rest-bits) j_in (inv.after past) new;
            low = omega (arith, ints);
            high = omega (arith, ints);
          }
      | else-j-i w ↦
          let at_i : j ≡ i = w.if-j-i.false in
          let b : j ≤ i = omega (arith, at_i) in
          record {
            before = λ h. absurd (omega (arith, at_i));
            after = λ h. ap (λ (z : ℤ). z +ℤ pos (unsigned_abs (place r i))) w.rest-is ∙ step_at r i j (to_z w128 c.loop-j.rest-bits) j_in at_i (inv.before b);
            low = omega (arith, ints);
            high = omega (arith, ints);
          }
    ]

pub returns-clause-value : goal.returns-clause-value
returns-clause-value g c =
    let inv = c.loop-j.invariant in
    let d = c.left_at-diagonal.ensures in
    let left = residual c.args.s.now.at c.args.w.now.list.items in
    let i = c.args.i in
    let r = row left i in
    let wide : length r ≡ g.row.N = length-row_residual c.args.s.now.at c.args.w.now.list.items i c.requires.i_in d.row_wide d.squares_wide in
    let over = c.loop-j-test.false in
    let b = d.small in
    let fd : FitsSigned w128 c.left_at-diagonal.result = record { sfits = c.left_at-diagonal.type_inv } in
    let fn : FitsSigned w128 (to_z w128 c.loop-j.rest-bits -ℤ c.left_at-diagonal.result) = omega (arith, ints) in
    let inside : i < c.loop-j.j = omega arith in
    let sum = all_rest r i c.loop-j.j (to_z w128 c.loop-j.rest-bits) (omega arith) (omega arith) (inv.after inside) in
    simp to_z-of_z (ap (λ (z : ℤ). z -ℤ c.left_at-diagonal.result) sum ∙ ap (λ (z : ℤ). pos (sum_by unsigned_abs (remove r i)) -ℤ z) d.value)
