use Rattle.std.proofs.Common.{◌≡◌, ◌<◌, ◌≤◌, ◌^◌, ℕ, pos, ℤ, length, List, [], sym, ap, subst, ◌∙◌, arith}
use Rattle.std.specs.Prelude.{slice_index_or, All}
use Rattle.std.proofs.lemmas.List.{get_or_default}
use Rattle.std.proofs.lemmas.Int.{to_z-of_z}
use Rattle.dp_form.specs.Vectors.{row}
use Rattle.dp_form.specs.Form.{IsSymmetric}
use Rattle.dp_form.specs.Range.{IsWithin}
use Rattle.dp_form.proofs.Shown.{has_size}
use Rattle.dp_cert.specs.Matrices.{contraction_matrix}
use Rattle.dp_cert.proofs.Columns.{same_matrix}
use Rattle.dp_cert.proofs.MatrixForms.{contraction_size, contraction_symmetric, full_fits}
use Rattle.dp_cert.proofs.matrices.contraction.Goals as goal

pub returns-clause-value : goal.returns-clause-value
returns-clause-value g c =
    let inv = c.loop-k.invariant in let n = g.row.N in
    let m = contraction_matrix c.args.rate c.args.p.now.at c.args.a.now in
    let some : 0 < c.loop-k.k = omega (arith, c.requires.n_some, c.loop-k-test.false) in
    let size = contraction_size n c.args.rate c.args.p.now.at c.args.a.now (inv.form_size some) (full_fits n c.args.a.now (inv.loop_size some)) in
    let past : n ≤ c.loop-k.k = c.loop-k-test.false in
    let fr = c.ranges.rate in
    let done : (j : ℕ) → j < c.loop-k.k → slice_index_or c.loop-k.at j [] ≡ row m j = simp to_z-of_z at inv.done in
    same_matrix n c.loop-k.at m
    (has_size n c.loop-k.at inv.long (λ k h. ap length (done k (omega (arith, h, past))) ∙ size.columns k [] (omega (arith, h, size.rows))))
    size (λ i j h k. ap (λ (r : List ℤ). slice_index_or r j (pos 0)) (done i (omega (arith, h, past))))

pub returns-clause-small : goal.returns-clause-small
returns-clause-small g c =
    let inv = c.loop-k.invariant in
    let past : g.row.N ≤ c.loop-k.k = c.loop-k-test.false in
    λ k d h. subst (All (IsWithin (2 ^ 121))) (sym (get_or_default c.loop-k.at k d [] h)) (inv.small k (omega (arith, h, inv.long, past)))

pub returns-clause-symmetric : goal.returns-clause-symmetric
returns-clause-symmetric g c =
    let some : 0 < c.loop-k.k = omega (arith, c.requires.n_some, c.loop-k-test.false) in
    λ s. subst (IsSymmetric g.row.N) (sym (returns-clause-value g c)) (contraction_symmetric g.row.N c.args.rate c.args.p.now.at c.args.a.now (c.loop-k.invariant.form_size some) s)
