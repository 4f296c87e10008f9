use Rattle.std.proofs.Common.{◌∙◌, FitsSigned}
use Rattle.std.proofs.lemmas.Int.{to_z-of_z}
use mir.Syntax.{w128}
use Rattle.dp_cert.proofs.TooWide.{too_wide, not_too_wide}
use Rattle.dp_cert.proofs.width.first_too_wide.Goals as goal

pub returns-in-Err : goal.returns-in-Err
returns-in-Err g c =
    let fn : FitsSigned w128 c.reach_of.result = record { sfits = c.reach_of.type_inv } in
    let value = c.reach_of.ensures.value in
    let wide = simp to_z-of_z at c.in-Err.ensures.wide in
    too_wide c.args.c.now c.args.l.now c.reach_of.result c.in-Err.coordinate value wide

pub returns-in-Ok : goal.returns-in-Ok
returns-in-Ok g c =
    let fn : FitsSigned w128 c.reach_of.result = record { sfits = c.reach_of.type_inv } in
    let value = c.reach_of.ensures.value in
    let none = simp to_z-of_z at c.in-Ok.ensures.none in
    let made = simp to_z-of_z at c.in-Ok.ensures.value in
    c.first_heavy.ensures ∙ not_too_wide c.args.c.now c.args.l.now c.reach_of.result c.in-Ok.widths value none made
