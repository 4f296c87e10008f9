use Rattle.std.proofs.Common.{◌+◌, ◌*◌, ◌^◌, pos, ℤ, ◌+ℤ◌, ◌*ℤ◌, sym, ap, ◌∙◌, arith, to_z, FitsSigned}
use Rattle.std.specs.Prelude.{slice_index_or}
use Rattle.std.proofs.lemmas.Int.{ints, to_z-of_z}
use mir.Syntax.{w128}
use Rattle.dp_form.specs.Range.{IsWithin}
use Rattle.dp_form.proofs.Products.{product_within}
use Rattle.dp_cert.proofs.Fills.{dot_more, part_added, few, wider}
use Rattle.dp_cert.proofs.matrices.dot_of.Goals as goal

pub overflow_mul-sum : goal.overflow_mul-sum
overflow_mul-sum g c =
    let k = c.loop-k.k in let x = c.args.x.now in let y = c.args.y.now in
    let a = slice_index_or x k (pos 0) in let b = slice_index_or y k (pos 0) in
    let hx : IsWithin (2 ^ 40) a = c.requires.x_small k (pos 0) (omega (arith, c.told-x, c.loop-k-test.true)) in
    let hy : IsWithin (2 ^ 78) b = c.requires.y_small k (pos 0) (omega (arith, c.told-y, c.loop-k-test.true)) in
    let fa : FitsSigned w128 a = omega (arith, ints) in let fb : FitsSigned w128 b = omega (arith, ints) in
    let p = product_within (2 ^ 40) (2 ^ 78) a b hx hy in
    let fp : FitsSigned w128 (a *ℤ b) = omega (arith, ints, p.low, p.high) in
    simp to_z-of_z fp

pub overflow_add-sum : goal.overflow_add-sum
overflow_add-sum g c =
    let k = c.loop-k.k in let x = c.args.x.now in let y = c.args.y.now in
    let a = slice_index_or x k (pos 0) in let b = slice_index_or y k (pos 0) in
    let hx : IsWithin (2 ^ 40) a = c.requires.x_small k (pos 0) (omega (arith, c.told-x, c.loop-k-test.true)) in
    let hy : IsWithin (2 ^ 78) b = c.requires.y_small k (pos 0) (omega (arith, c.told-y, c.loop-k-test.true)) in
    let fa : FitsSigned w128 a = omega (arith, ints) in let fb : FitsSigned w128 b = omega (arith, ints) in
    let p = product_within (2 ^ 40) (2 ^ 78) a b hx hy in
    let fp : FitsSigned w128 (a *ℤ b) = omega (arith, ints, p.low, p.high) in
    let s = to_z w128 c.loop-k.sum-bits in
    let t = part_added k (2 ^ 40) (2 ^ 78) s a b hx hy (c.loop-k.invariant.small (2 ^ 78) c.requires.y_small) in
    let u = wider ((k + 1) * (2 ^ 40 * 2 ^ 78)) (5 * (2 ^ 40 * 2 ^ 78)) (s +ℤ a *ℤ b) (few (k + 1) (2 ^ 40 * 2 ^ 78) (omega (arith, c.requires.n_small, c.loop-k-test.true))) t in
    let fs : FitsSigned w128 (s +ℤ a *ℤ b) = omega (arith, ints, u.low, u.high) in
    simp to_z-of_z fs

pub loop-k-preserved : goal.loop-k-preserved
loop-k-preserved g c =
    let k = c.loop-k.k in let x = c.args.x.now in let y = c.args.y.now in
    let a = slice_index_or x k (pos 0) in let b = slice_index_or y k (pos 0) in
    let hx : IsWithin (2 ^ 40) a = c.requires.x_small k (pos 0) (omega (arith, c.told-x, c.loop-k-test.true)) in
    let hy : IsWithin (2 ^ 78) b = c.requires.y_small k (pos 0) (omega (arith, c.told-y, c.loop-k-test.true)) in
    let fa : FitsSigned w128 a = omega (arith, ints) in let fb : FitsSigned w128 b = omega (arith, ints) in
    let p = product_within (2 ^ 40) (2 ^ 78) a b hx hy in
    let fp : FitsSigned w128 (a *ℤ b) = omega (arith, ints, p.low, p.high) in
    let s = to_z w128 c.loop-k.sum-bits in
    let t = part_added k (2 ^ 40) (2 ^ 78) s a b hx hy (c.loop-k.invariant.small (2 ^ 78) c.requires.y_small) in
    let u = wider ((k + 1) * (2 ^ 40 * 2 ^ 78)) (5 * (2 ^ 40 * 2 ^ 78)) (s +ℤ a *ℤ b) (few (k + 1) (2 ^ 40 * 2 ^ 78) (omega (arith, c.requires.n_small, c.loop-k-test.true))) t in
    let fs : FitsSigned w128 (s +ℤ a *ℤ b) = omega (arith, ints, u.low, u.high) in
    record {
      is = simp to_z-of_z (ap (λ (z : ℤ). z +ℤ a *ℤ b) c.loop-k.invariant.is ∙ sym (dot_more x y k (omega (arith, c.told-x, c.loop-k-test.true))));
      small = λ m h. simp to_z-of_z (part_added k (2 ^ 40) m s a b hx (h k (pos 0) (omega (arith, c.told-y, c.loop-k-test.true))) (c.loop-k.invariant.small m h));
    }

pub returns-clause-small : goal.returns-clause-small
returns-clause-small g c = λ m h.
    wider (c.loop-k.k * (2 ^ 40 * m)) (5 * (2 ^ 40 * m)) (to_z w128 c.loop-k.sum-bits) (few c.loop-k.k (2 ^ 40 * m) (omega (arith, c.requires.n_small, c.loop-k.auto.k-end))) (c.loop-k.invariant.small m h)
