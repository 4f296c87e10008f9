use Rattle.std.proofs.Common.{◌≡◌, ℕ, ℤ, ◌*ℤ◌, false, sym, ap₂, subst, ◌∙◌, inl, inr, lit<, FitsSigned}
use Rattle.std.specs.Prelude.{int_le}
use Rattle.std.proofs.lemmas.Int.{to_z-of_z}
use mir.Syntax.{w128}
use Rattle.dp_form.specs.Form.{plane_form}
use Rattle.dp_cert.proofs.Lights.{below_six, light_by, past_is_outside}
use Rattle.dp_cert.proofs.TooWide.{never_wide, too_wide}
use Rattle.dp_cert.proofs.inside.is_inside.Goals as goal

pub returns-in-Err : goal.returns-in-Err
returns-in-Err g c =
    let fn : FitsSigned w128 c.reach_of-reach.result = record { sfits = c.reach_of-reach.type_inv } in
    let value = c.reach_of-reach.ensures.value in
    let wide = simp to_z-of_z at c.in-Err.ensures.wide in
    never_wide (too_wide c.args.c.now c.args.l.now c.reach_of-reach.result c.in-Err.field-0 value wide) c.requires.narrow

pub returns-then-has_past : goal.returns-then-has_past
returns-then-has_past g c =
    let l = c.args.l.now in let x = c.args.x.now in let y = c.args.y.now in
    let fn : FitsSigned w128 c.reach_of-reach.result = record { sfits = c.reach_of-reach.type_inv } in
    let value = c.reach_of-reach.ensures.value in
    let made = simp to_z-of_z at c.in-Ok.ensures.value in
    let outside = past_is_outside l c.requires.form c.requires.bounded (λ (i : ℕ). (c.requires.lists.span i).low) c.reach_of-reach.result c.reach_of-reach.ensures.from_zero x y c.in-Ok.widths made (sym c.has_past.ensures ∙ c.if-has_past.true) in
    sym (subst (λ (z : ℤ). int_le (plane_form l.p.at x y) (z *ℤ z) ≡ false) value outside.0)

pub returns-then-has_past-2 : goal.returns-then-has_past-2
returns-then-has_past-2 g c =
    let l = c.args.l.now in let x = c.args.x.now in let y = c.args.y.now in
    let fn : FitsSigned w128 c.reach_of-reach.result = record { sfits = c.reach_of-reach.type_inv } in
    let value = c.reach_of-reach.ensures.value in
    let made = simp to_z-of_z at c.in-Ok.ensures.value in
    let outside = past_is_outside l c.requires.form c.requires.bounded (λ (i : ℕ). (c.requires.lists.span i).low) c.reach_of-reach.result c.reach_of-reach.ensures.from_zero y x c.in-Ok.widths made (sym c.has_past-in-Ok.ensures ∙ c.if-has_past-2.true) in
    sym (subst (λ (z : ℤ). int_le (plane_form l.p.at x y) (z *ℤ z) ≡ false) value outside.1)

pub plane_form-requires : goal.plane_form-requires
plane_form-requires g c =
    let l = c.args.l.now in
    let fn : FitsSigned w128 c.reach_of-reach.result = record { sfits = c.reach_of-reach.type_inv } in
    let value = c.reach_of-reach.ensures.value in
    let made = simp to_z-of_z at c.in-Ok.ensures.value in (
      elim c.requires.size [ inl e ↦ rw e (lit< tt) | inr e ↦ rw e (lit< tt) ],
      (
        elim c.requires.size [ inl e ↦ rw e (lit< tt) | inr e ↦ rw e (lit< tt) ],
        (
          below_six g.row.N c.requires.size,
          (
            c.requires.lists.p,
            (
              light_by c.args.c.now l c.reach_of-reach.result c.requires.size c.requires.narrow value c.args.x.now c.in-Ok.widths made c.told-x (sym c.has_past.ensures ∙ c.if-has_past.false),
              light_by c.args.c.now l c.reach_of-reach.result c.requires.size c.requires.narrow value c.args.y.now c.in-Ok.widths made c.told-y (sym c.has_past-in-Ok.ensures ∙ c.if-has_past-2.false),
            ),
          ),
        ),
      ),
    )

pub returns-else-has_past-2 : goal.returns-else-has_past-2
returns-else-has_past-2 g c =
    let fn : FitsSigned w128 c.reach_of-reach.result = record { sfits = c.reach_of-reach.type_inv } in
    let ff : FitsSigned w128 c.plane_form.result = record { sfits = c.plane_form.type_inv } in
    let value = c.reach_of-reach.ensures.value in
    let test = simp to_z-of_z at c.is_at_most.ensures in
    test ∙ ap₂ (λ (f n : ℤ). int_le f (n *ℤ n)) c.plane_form.ensures.value value
