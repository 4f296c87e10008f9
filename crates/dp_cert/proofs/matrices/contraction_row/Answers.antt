use Rattle.std.proofs.Common.{◌≡◌, ◌<◌, ◌^◌, ℕ, pos, ℤ, [], sym, subst, ◌∙◌, arith, FitsSigned, slice_set}
use Rattle.std.specs.Prelude.{slice_index_or}
use Rattle.std.proofs.lemmas.Int.{to_z-of_z}
use Rattle.std.proofs.lemmas.List.Edits.{fill_by_more}
use Rattle.std.proofs.lemmas.List.{length-set}
use mir.Syntax.{w128}
use Rattle.dp_form.specs.Vectors.{row, entry}
use Rattle.dp_form.specs.Range.{IsWithin}
use Rattle.dp_cert.specs.Matrices.{contraction_matrix}
use Rattle.dp_cert.proofs.Columns.{same_vector}
use Rattle.dp_cert.proofs.MatrixForms.{contraction_size, full_fits}
use Rattle.dp_cert.proofs.Fills.{below_more, small_vector}
use Rattle.dp_cert.proofs.matrices.contraction_row.Goals as goal

pub loop-k-preserved : goal.loop-k-preserved
loop-k-preserved g c =
    let fr = c.ranges.rate in
    let ft : FitsSigned w128 c.contraction_entry.result = record { sfits = c.contraction_entry.type_inv } in
    let m = contraction_matrix c.args.rate c.args.p.now.at c.args.a.now in let k = c.loop-k.k in
    let out = c.loop-k.out in
    let f : ℕ → ℤ = λ (j : ℕ). entry m c.args.i j in
    let inv = c.loop-k.invariant in
    let done : (j : ℕ) → j < k → slice_index_or out j (pos 0) ≡ f j = simp to_z-of_z at inv.done in
    let small : (j : ℕ) → j < k → IsWithin (2 ^ 121) (f j) = simp to_z-of_z at inv.small in
    let v = c.contraction_entry.ensures in
    let value : c.contraction_entry.result ≡ f k = simp to_z-of_z at v.value in
    simp to_z-of_z (record {
      long = length-set out k _ ∙ inv.long;
      done = λ (j : ℕ) h. subst (λ (z : ℤ). slice_index_or (slice_set out k z) j (pos 0) ≡ f j) (sym value) (fill_by_more f out k (pos 0) (omega arith) done j h);
      small = below_more (λ (j : ℕ). IsWithin (2 ^ 121) (f j)) k small (subst (IsWithin (2 ^ 121)) value v.small);
      form_size = λ h. v.form_size;
      loop_size = λ h. v.loop_size;
    })

pub returns-clause-value : goal.returns-clause-value
returns-clause-value g c =
    let inv = c.loop-k.invariant in
    let m = contraction_matrix c.args.rate c.args.p.now.at c.args.a.now in
    let fr = c.ranges.rate in
    let done : (j : ℕ) → j < c.loop-k.k → slice_index_or c.loop-k.out j (pos 0) ≡ entry m c.args.i j = simp to_z-of_z at inv.done in
    let some : 0 < c.loop-k.k = omega (arith, c.requires.i_in, c.loop-k-test.false) in
    let size = contraction_size g.row.N c.args.rate c.args.p.now.at c.args.a.now (inv.form_size some) (full_fits g.row.N c.args.a.now (inv.loop_size some)) in
    same_vector c.loop-k.out (row m c.args.i) (inv.long ∙ sym (size.columns c.args.i [] (omega (arith, c.requires.i_in, size.rows))))
    (λ k h. done k (omega (arith, h, inv.long, c.loop-k-test.false)))

pub returns-clause-small : goal.returns-clause-small
returns-clause-small g c =
    let inv = c.loop-k.invariant in
    small_vector g.row.N (2 ^ 121) c.loop-k.out inv.long
    (λ k h. let k_in : k < c.loop-k.k = omega (arith, h, c.loop-k-test.false) in subst (IsWithin (2 ^ 121)) (sym (inv.done k k_in)) (inv.small k k_in))

pub returns-clause-form_size : goal.returns-clause-form_size
returns-clause-form_size g c = c.loop-k.invariant.form_size (omega (arith, c.requires.i_in, c.loop-k-test.false))

pub returns-clause-loop_size : goal.returns-clause-loop_size
returns-clause-loop_size g c = c.loop-k.invariant.loop_size (omega (arith, c.requires.i_in, c.loop-k-test.false))
