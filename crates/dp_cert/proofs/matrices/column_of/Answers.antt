use Rattle.dp_cert.specs.Matrices.{column}
use Rattle.std.proofs.Common.{◌≡◌, ℕ, pos, ℤ, length, sym, subst, ◌∙◌, arith, to_z, FitsSigned, slice_set}
use Rattle.std.specs.Prelude.{slice_index_or}
use Rattle.std.proofs.lemmas.Int.{to_z-of_z}
use Rattle.std.proofs.lemmas.List.Edits.{fill_by_more}
use Rattle.std.proofs.lemmas.List.{length-set}
use mir.Syntax.{w128}
use Rattle.dp_form.specs.Vectors.{row}
use Rattle.dp_cert.proofs.Columns.{same_vector}
use Rattle.dp_cert.proofs.Fills.{place_column, length_column, below_more}
use Rattle.dp_cert.proofs.matrices.column_of.Goals as goal

pub loop-k-preserved : goal.loop-k-preserved
loop-k-preserved g c =
    let inv = c.loop-k.invariant in
    let a = c.args.a.now in let j = c.args.j in let i = c.loop-k.k in
    let out = c.loop-k.out in
    let f : ℕ → ℤ = λ (k : ℕ). slice_index_or (column a j) k (pos 0) in
    let ft : FitsSigned w128 c.number_at.result = record { sfits = c.number_at.type_inv } in
    let e : to_z w128 _ ≡ f i = to_z-of_z w128 c.number_at.result ft ∙ c.number_at.ensures.value ∙ sym (place_column a i j) in
    record {
      long = length-set out i _ ∙ inv.long;
      done = λ k h. subst (λ (z : ℤ). slice_index_or (slice_set out i z) k (pos 0) ≡ f k) (sym e) (fill_by_more f out i (pos 0) (omega arith) inv.done k h);
      wide = below_more (λ (k : ℕ). length (row a k) ≡ g.row.N) i inv.wide c.number_at.ensures.wide;
    }

pub returns-clause-value : goal.returns-clause-value
returns-clause-value g c =
    let t = c.told-a in
    let inv = c.loop-k.invariant in
    same_vector c.loop-k.out (column c.args.a.now c.args.j) (inv.long ∙ sym t ∙ sym (length_column c.args.a.now c.args.j))
    (λ k h. inv.done k (omega (arith, h, inv.long, c.loop-k-test.false)))
