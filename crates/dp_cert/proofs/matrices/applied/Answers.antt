use Rattle.std.proofs.Common.{◌≡◌, ◌<◌, ◌*◌, ◌^◌, ℕ, pos, ℤ, length, sym, subst, ◌∙◌, arith, to_z, FitsSigned, slice_set}
use Rattle.std.specs.Prelude.{slice_index_or}
use Rattle.std.proofs.lemmas.Int.{to_z-of_z}
use Rattle.std.proofs.lemmas.List.Edits.{fill_by_more}
use Rattle.std.proofs.lemmas.List.{length-set}
use mir.Syntax.{w128}
use Rattle.dp_form.specs.Vectors.{apply, row}
use Rattle.dp_form.specs.Range.{IsWithin}
use Rattle.dp_cert.proofs.Columns.{same_vector}
use Rattle.dp_cert.proofs.Sums.{length-apply}
use Rattle.dp_cert.proofs.Fills.{below_more, place_applied, small_vector, wider}
use Rattle.dp_cert.proofs.matrices.applied.Goals as goal

pub loop-k-preserved : goal.loop-k-preserved
loop-k-preserved g c =
    let inv = c.loop-k.invariant in
    let p = c.args.p.now in let x = c.args.x.now in let i = c.loop-k.k in
    let out = c.loop-k.out in
    let f : ℕ → ℤ = λ (k : ℕ). slice_index_or (apply p x) k (pos 0) in
    let ft : FitsSigned w128 c.dot_of.result = record { sfits = c.dot_of.type_inv } in
    let v : c.dot_of.result ≡ f i = c.dot_of.ensures.value ∙ sym (place_applied p x i) in
    let e : to_z w128 _ ≡ f i = to_z-of_z w128 c.dot_of.result ft ∙ v in
    let s : IsWithin (2 ^ 78) c.dot_of.result = wider (5 * (2 ^ 40 * 2 ^ 35)) (2 ^ 78) c.dot_of.result (omega arith) (c.dot_of.ensures.small (2 ^ 35) c.requires.x_small) in
    record {
      long = length-set out i _ ∙ inv.long;
      done = λ k h. subst (λ (z : ℤ). slice_index_or (slice_set out i z) k (pos 0) ≡ f k) (sym e) (fill_by_more f out i (pos 0) (omega arith) inv.done k h);
      small = below_more (λ (k : ℕ). IsWithin (2 ^ 78) (f k)) i inv.small (subst (IsWithin (2 ^ 78)) v s);
      wide = below_more (λ (k : ℕ). length (row p k) ≡ g.row.N) i inv.wide c.dot_of.ensures.wide;
    }

pub returns-clause-value : goal.returns-clause-value
returns-clause-value g c =
    let inv = c.loop-k.invariant in
    same_vector c.loop-k.out (apply c.args.p.now c.args.x.now) (inv.long ∙ sym c.told-p ∙ sym (length-apply c.args.p.now c.args.x.now))
    (λ k h. inv.done k (omega (arith, h, inv.long, c.loop-k-test.false)))

pub returns-clause-small : goal.returns-clause-small
returns-clause-small g c =
    let inv = c.loop-k.invariant in
    small_vector g.row.N (2 ^ 78) c.loop-k.out inv.long
    (λ k h. let k_in : k < c.loop-k.k = omega (arith, h, c.loop-k-test.false) in subst (IsWithin (2 ^ 78)) (sym (inv.done k k_in)) (inv.small k k_in))
