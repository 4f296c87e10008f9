use Rattle.dp_cert.specs.Matrices.{column}
use Rattle.std.proofs.Common.{◌≡◌, ◌*◌, ◌^◌, ℤ, ◌-ℤ◌, ◌*ℤ◌, List, sym, ap, subst, ◌∙◌, arith, FitsSigned}
use Rattle.std.specs.Prelude.{All}
use Rattle.std.proofs.lemmas.Int.{ints, to_z-of_z}
use mir.Syntax.{w128}
use Rattle.dp_form.specs.Vectors.{dot, apply, entry}
use Rattle.dp_form.specs.Form.{bilinear}
use Rattle.dp_form.specs.Range.{IsWithin}
use Rattle.dp_form.proofs.Shown.{has_size}
use Rattle.dp_cert.proofs.Columns.{entry_contraction}
use Rattle.dp_cert.proofs.Fills.{column_small, wider_all}
use Rattle.dp_cert.proofs.matrices.contraction_entry.Goals as goal

pub applied-z-requires : goal.applied-z-requires
applied-z-requires g c = (
  omega (arith, c.requires.n_small),
  (
    omega (arith, c.requires.n_small),
    (
      c.requires.n_small,
      (
        c.requires.p_small,
        subst (All (IsWithin (2 ^ 35))) (sym c.column_of-y.ensures.value) (column_small (2 ^ 35) c.args.a.now c.args.j c.requires.a_small),
      ),
    ),
  ),
)

pub dot_of-shrunk-requires : goal.dot_of-shrunk-requires
dot_of-shrunk-requires g c = (
  omega (arith, c.requires.n_small),
  (
    c.requires.n_small,
    (
      subst (All (IsWithin (2 ^ 40))) (sym c.column_of-x.ensures.value) (wider_all (2 ^ 35) (2 ^ 40) (column c.args.a.now c.args.i) (omega arith) (column_small (2 ^ 35) c.args.a.now c.args.i c.requires.a_small)),
      c.applied-z.ensures.small,
    ),
  ),
)

pub less-requires-clause-shrunk_small : goal.less-requires-clause-shrunk_small
less-requires-clause-shrunk_small g c =
    let f : FitsSigned w128 c.dot_of-shrunk.result = record { sfits = c.dot_of-shrunk.type_inv } in
    subst (IsWithin (5 * 2 ^ 118)) (sym (to_z-of_z w128 c.dot_of-shrunk.result f)) (c.dot_of-shrunk.ensures.small (2 ^ 78) c.applied-z.ensures.small)

pub returns-clause-value : goal.returns-clause-value
returns-clause-value g c =
    let rate = c.args.rate in let p = c.args.p.now.at in let a = c.args.a.now in let i = c.args.i in let j = c.args.j in
    let fr = c.ranges.rate in
    let gr : FitsSigned w128 rate = omega (arith, ints) in
    let fe : FitsSigned w128 c.entry_at.result = record { sfits = c.entry_at.type_inv } in
    let fs : FitsSigned w128 c.dot_of-shrunk.result = record { sfits = c.dot_of-shrunk.type_inv } in
    let fl : FitsSigned w128 c.less.result = record { sfits = c.less.type_inv } in
    let v : c.less.result ≡ rate *ℤ rate *ℤ c.entry_at.result -ℤ c.dot_of-shrunk.result = simp to_z-of_z at c.less.ensures.value in
    let d : c.dot_of-shrunk.result ≡ bilinear p (column a i) (column a j) =
    c.dot_of-shrunk.ensures.value ∙ ap (λ (z : List ℤ). dot z c.applied-z.result) c.column_of-x.ensures.value
    ∙ ap (dot (column a i)) (c.applied-z.ensures.value ∙ ap (apply p) c.column_of-y.ensures.value) in
    to_z-of_z w128 c.less.result fl ∙ v ∙ ap (λ (z : ℤ). rate *ℤ rate *ℤ z -ℤ c.dot_of-shrunk.result) c.entry_at.ensures.value
    ∙ ap (λ (z : ℤ). rate *ℤ rate *ℤ entry p i j -ℤ z) d ∙ sym (entry_contraction rate p a i j)

pub returns-clause-form_size : goal.returns-clause-form_size
returns-clause-form_size g c = has_size g.row.N c.args.p.now.at c.applied-z.ensures.rows c.applied-z.ensures.columns

pub returns-clause-loop_size : goal.returns-clause-loop_size
returns-clause-loop_size g c = has_size g.row.N c.args.a.now c.column_of-x.ensures.rows c.column_of-x.ensures.columns
