use Rattle.std.proofs.Common.{◌≡◌, ◌<◌, ◌+◌, ◌^◌, ℕ, pos, ℤ, ◌-ℤ◌, ◌*ℤ◌, sym, ap, subst, ◌∙◌, arith, FitsSigned, slice_set}
use Rattle.std.specs.Prelude.{slice_index_or}
use Rattle.std.proofs.lemmas.Int.{to_z-of_z}
use Rattle.std.proofs.lemmas.List.Edits.{fill_by_more}
use Rattle.std.proofs.lemmas.List.{length-set}
use mir.Syntax.{w128}
use Rattle.dp_form.specs.Range.{IsWithin}
use Rattle.dp_cert.proofs.Fills.{below_more, small_vector}
use Rattle.dp_cert.proofs.matrices.output_row.Goals as goal

pub loop-j-preserved : goal.loop-j-preserved
loop-j-preserved g c =
    let fk = c.ranges.k in
    let row = c.args.row.now in let o = c.args.g.now in let k = c.args.k in let i = c.args.i in let j = c.loop-j.j in
    let out = c.loop-j.out in let inv = c.loop-j.invariant in
    let ft : FitsSigned w128 c.less_product.result = record { sfits = c.less_product.type_inv } in
    let fe : FitsSigned w128 c.entry_at.result = record { sfits = c.entry_at.type_inv } in
    let fn : FitsSigned w128 c.number_at.result = record { sfits = c.number_at.type_inv } in
    let fo : FitsSigned w128 c.number_at-own.result = record { sfits = c.number_at-own.type_inv } in
    let f : ℕ → ℤ = λ (n : ℕ). k *ℤ k *ℤ slice_index_or row n (pos 0) -ℤ slice_index_or o i (pos 0) *ℤ slice_index_or o n (pos 0) in
    let done : (n : ℕ) → n < j → slice_index_or out n (pos 0) ≡ f n = simp to_z-of_z at inv.done in
    let v : c.less_product.result ≡ k *ℤ k *ℤ c.entry_at.result -ℤ c.number_at-own.result *ℤ c.number_at.result = simp to_z-of_z at c.less_product.ensures.value in
    let value : c.less_product.result ≡ f j = v ∙ ap (λ (z : ℤ). k *ℤ k *ℤ z -ℤ c.number_at-own.result *ℤ c.number_at.result) c.entry_at.ensures.value
    ∙ ap (λ (z : ℤ). k *ℤ k *ℤ slice_index_or row j (pos 0) -ℤ z *ℤ c.number_at.result) c.number_at-own.ensures.value
    ∙ ap (λ (z : ℤ). k *ℤ k *ℤ slice_index_or row j (pos 0) -ℤ slice_index_or o i (pos 0) *ℤ z) c.number_at.ensures.value in
    let new : (n : ℕ) → n < j + 1 → slice_index_or (slice_set out j (f j)) n (pos 0) ≡ f n = fill_by_more f out j (pos 0) (omega arith) done in
    let small : (n : ℕ) → n < j + 1 → IsWithin (2 ^ 121) (f n) =
    below_more (λ (n : ℕ). IsWithin (2 ^ 121) (f n)) j (λ n h. subst (IsWithin (2 ^ 121)) (done n h) (inv.small n h)) (subst (IsWithin (2 ^ 121)) value c.less_product.ensures.small) in
    simp to_z-of_z (record {
      long = length-set out j _ ∙ inv.long;
      done = λ (n : ℕ) h. subst (λ (z : ℤ). slice_index_or (slice_set out j z) n (pos 0) ≡ f n) (sym value) (new n h);
      small = λ (n : ℕ) h. subst (λ (z : ℤ). IsWithin (2 ^ 121) (slice_index_or (slice_set out j z) n (pos 0))) (sym value) (subst (IsWithin (2 ^ 121)) (sym (new n h)) (small n h));
    })

pub returns-clause-small : goal.returns-clause-small
returns-clause-small g c =
    let inv = c.loop-j.invariant in
    small_vector g.row.N (2 ^ 121) c.loop-j.out inv.long (λ k h. inv.small k (omega (arith, h, c.loop-j-test.false)))
