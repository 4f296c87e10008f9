use Rattle.std.proofs.Common.{rules, ◌≡◌, ◌≤ℤ◌, ◌^◌, pos, arith, ℤ, FitsSigned, ap, ◌∙◌}
use Rattle.std.proofs.lemmas.Int.{ints, to_z-of_z}
use mir.Syntax.{w64, w128}
use Rattle.dp_form.specs.Vectors.{entry}
use Rattle.dp_form.specs.Residual.{residual}
use Rattle.dp_form.specs.Range.{IsWithin}
use Rattle.dp_form.specs.Made.{trim, scale_of, weight}
use Rattle.dp_form.proofs.MadeLaws.{next_none_d, next_none_l, next_some, small_given}
use Rattle.dp_form.proofs.maker.next_square.Goals as goal

pub returns-in_err-d-clause-value : goal.returns-in_err-d-clause-value
returns-in_err-d-clause-value g c =
    let fp : FitsSigned w128 c.left_at-p.result = record { sfits = c.left_at-p.type_inv } in
    let fq : FitsSigned w128 c.trim-q.result = record { sfits = c.trim-q.type_inv } in
    let fs : FitsSigned w128 c.scale_of-scale.result = record { sfits = c.scale_of-scale.type_inv } in
    let fw : FitsSigned w128 c.weight-weight.result = record { sfits = c.weight-weight.type_inv } in
    let left = residual c.args.s.now.at c.args.w.now.list.items in
    let vq = simp to_z-of_z at c.trim-q.ensures.value in
    let q : c.trim-q.result ≡ trim (entry left c.args.i c.args.i) = vq ∙ ap (λ (z : ℤ). trim z) c.left_at-p.ensures.value in
    let vw = simp to_z-of_z at c.weight-weight.ensures.value in
    let w : c.weight-weight.result ≡ weight (trim (entry left c.args.i c.args.i)) = vw ∙ ap (λ (z : ℤ). weight z) q in
    let value = simp to_z-of_z at c.in_err-d.ensures.value in
    next_none_d c.args.i left c.weight-weight.result c.from_residual.result w c.weight-weight.ensures.low value c.from_residual.ensures

pub vector-requires : goal.vector-requires
vector-requires g c =
    let fs : FitsSigned w128 c.scale_of-scale.result = record { sfits = c.scale_of-scale.type_inv } in
    let fw : FitsSigned w128 c.weight-weight.result = record { sfits = c.weight-weight.type_inv } in
    let room = simp to_z-of_z at c.weight-weight.ensures.room in
    (search rules, (search rules, (search rules, (c.requires.i_in, (c.requires.entries, (c.requires.squares, (simp to_z-of_z c.weight-weight.ensures.low, (simp to_z-of_z c.scale_of-scale.ensures.low, simp to_z-of_z room))))))))

pub returns-in_err-l-clause-value : goal.returns-in_err-l-clause-value
returns-in_err-l-clause-value g c =
    let fp : FitsSigned w128 c.left_at-p.result = record { sfits = c.left_at-p.type_inv } in
    let fq : FitsSigned w128 c.trim-q.result = record { sfits = c.trim-q.type_inv } in
    let fs : FitsSigned w128 c.scale_of-scale.result = record { sfits = c.scale_of-scale.type_inv } in
    let fw : FitsSigned w128 c.weight-weight.result = record { sfits = c.weight-weight.type_inv } in
    let left = residual c.args.s.now.at c.args.w.now.list.items in
    let vq = simp to_z-of_z at c.trim-q.ensures.value in
    let q : c.trim-q.result ≡ trim (entry left c.args.i c.args.i) = vq ∙ ap (λ (z : ℤ). trim z) c.left_at-p.ensures.value in
    let vw = simp to_z-of_z at c.weight-weight.ensures.value in
    let w : c.weight-weight.result ≡ weight (trim (entry left c.args.i c.args.i)) = vw ∙ ap (λ (z : ℤ). weight z) q in
    let vs = simp to_z-of_z at c.scale_of-scale.ensures.value in
    let s : c.scale_of-scale.result ≡ scale_of (trim (entry left c.args.i c.args.i)) = vs ∙ ap (λ (z : ℤ). scale_of z) q in
    let value = simp to_z-of_z at c.in_err-l.ensures.value in
    next_none_l c.args.i left c.weight-weight.result c.scale_of-scale.result c.from_residual-in_err-l.result w s value c.from_residual-in_err-l.ensures

pub returns-clause-value : goal.returns-clause-value
returns-clause-value g c =
    let fp : FitsSigned w128 c.left_at-p.result = record { sfits = c.left_at-p.type_inv } in
    let fq : FitsSigned w128 c.trim-q.result = record { sfits = c.trim-q.type_inv } in
    let fs : FitsSigned w128 c.scale_of-scale.result = record { sfits = c.scale_of-scale.type_inv } in
    let fw : FitsSigned w128 c.weight-weight.result = record { sfits = c.weight-weight.type_inv } in
    let left = residual c.args.s.now.at c.args.w.now.list.items in
    let vp = c.left_at-p.ensures.value in
    let vq = simp to_z-of_z at c.trim-q.ensures.value in
    let q : c.trim-q.result ≡ trim (entry left c.args.i c.args.i) = vq ∙ ap (λ (z : ℤ). trim z) vp in
    let vw = simp to_z-of_z at c.weight-weight.ensures.value in
    let w : c.weight-weight.result ≡ weight (trim (entry left c.args.i c.args.i)) = vw ∙ ap (λ (z : ℤ). weight z) q in
    let vs = simp to_z-of_z at c.scale_of-scale.ensures.value in
    let s : c.scale_of-scale.result ≡ scale_of (trim (entry left c.args.i c.args.i)) = vs ∙ ap (λ (z : ℤ). scale_of z) q in
    let size : IsWithin (2 ^ 40) c.in_ok-d.d = c.in_ok-d.ensures.size in
    let fd : FitsSigned w64 c.in_ok-d.d = omega (arith, ints, size) in
    let vd = simp to_z-of_z at c.in_ok-d.ensures.value in
    let vl = simp to_z-of_z at c.in_ok-l.ensures.value in
    let over : pos 1 ≤ℤ c.left_at-p.result = omega (arith, ints, c.if-p-lt1.false) in
    let p : pos 1 ≤ℤ entry left c.args.i c.args.i = rw vp at over in
    simp to_z-of_z (next_some c.args.i left c.weight-weight.result c.scale_of-scale.result c.in_ok-d.d c.in_ok-l.l w s p c.weight-weight.ensures.low vd vl)

pub returns-clause-small : goal.returns-clause-small
returns-clause-small g c =
    let size : IsWithin (2 ^ 40) c.in_ok-d.d = c.in_ok-d.ensures.size in
    let fd : FitsSigned w64 c.in_ok-d.d = omega (arith, ints, size) in
    let fw : FitsSigned w128 c.weight-weight.result = record { sfits = c.weight-weight.type_inv } in
    let value = simp to_z-of_z at c.in_ok-d.ensures.value in
    let same = (small_given c.weight-weight.result c.in_ok-d.d value).1 in
    let low = c.weight-weight.ensures.low in
    record {
      weight_low = simp to_z-of_z (omega (arith, ints, same, low));
      weight_high = simp to_z-of_z size.high;
      vector = c.in_ok-l.ensures.size;
    }
