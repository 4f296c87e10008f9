use Rattle.std.proofs.Common.{◌≡◌, ◌<◌, ◌≤◌, ◌^◌, ℕ, pos, ◌-ℤ◌, ◌*ℤ◌, [], sym, subst, ◌∙◌, arith}
use Rattle.std.specs.Prelude.{slice_index_or, All}
use Rattle.std.proofs.lemmas.Int.{to_z-of_z}
use Rattle.std.proofs.lemmas.List.{get_or_default}
use Rattle.dp_form.specs.Vectors.{row}
use Rattle.dp_form.specs.Form.{IsSymmetric}
use Rattle.dp_form.specs.Range.{IsWithin}
use Rattle.dp_form.proofs.Shown.{has_size}
use Rattle.dp_cert.specs.Matrices.{output_matrix}
use Rattle.dp_cert.proofs.Columns.{same_matrix, entry_output}
use Rattle.dp_cert.proofs.MatrixForms.{output_size, output_symmetric}
use Rattle.dp_cert.proofs.matrices.output_rows.Goals as goal

pub returns-clause-value : goal.returns-clause-value
returns-clause-value g c =
    let inv = c.loop-i.invariant in let n = g.row.N in let fk = c.ranges.k in
    let p = c.args.p.now in let o = c.args.g.now in let k = c.args.k in
    let past : n ≤ c.loop-i.i = c.loop-i-test.false in
    let form = has_size n p c.told-p (λ i h. inv.form i (omega (arith, h, past))) in
    let done : (i j : ℕ) → i < c.loop-i.i → j < n → slice_index_or (slice_index_or c.loop-i.at i []) j (pos 0) ≡ k *ℤ k *ℤ slice_index_or (row p i) j (pos 0) -ℤ slice_index_or o i (pos 0) *ℤ slice_index_or o j (pos 0) = simp to_z-of_z at inv.done in
    same_matrix n c.loop-i.at (output_matrix k p o)
    (has_size n c.loop-i.at inv.long (λ i h. inv.wide i (omega (arith, h, past))))
    (output_size n k p o form (omega (arith, c.told-g)))
    (λ i j h m. done i j (omega (arith, h, past)) m ∙ sym (entry_output k p o i j))

pub returns-clause-small : goal.returns-clause-small
returns-clause-small g c =
    let inv = c.loop-i.invariant in
    let past : g.row.N ≤ c.loop-i.i = c.loop-i-test.false in
    λ k d h. subst (All (IsWithin (2 ^ 121))) (sym (get_or_default c.loop-i.at k d [] h)) (inv.small k (omega (arith, h, inv.long, past)))

pub returns-clause-symmetric : goal.returns-clause-symmetric
returns-clause-symmetric g c =
    let inv = c.loop-i.invariant in let n = g.row.N in
    let past : n ≤ c.loop-i.i = c.loop-i-test.false in
    let form = has_size n c.args.p.now c.told-p (λ i h. inv.form i (omega (arith, h, past))) in
    λ s. subst (IsSymmetric n) (sym (returns-clause-value g c)) (output_symmetric n c.args.k c.args.p.now c.args.g.now form s)
