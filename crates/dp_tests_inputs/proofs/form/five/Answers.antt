use Rattle.std.proofs.Common.{to_z, of_z, ◌^◌}
use mir.Syntax.{w128}
use Rattle.dp_tests_inputs.proofs.Matrices.{kept, entries5, symmetric5}
use Rattle.dp_tests_inputs.proofs.form.five.Goals as goal

pub returns-clause-symmetric : goal.returns-clause-symmetric
returns-clause-symmetric c =
    let xa = to_z w128 (of_z w128 c.entry-a.result) in
    let xb = to_z w128 (of_z w128 c.entry-b.result) in
    let xc = to_z w128 (of_z w128 c.entry-c.result) in
    let xd = to_z w128 (of_z w128 c.entry-d.result) in
    let xe = to_z w128 (of_z w128 c.entry-e.result) in
    let xf = to_z w128 (of_z w128 c.entry-f.result) in
    let xg = to_z w128 (of_z w128 c.entry-g.result) in
    let xh = to_z w128 (of_z w128 c.entry-h.result) in
    symmetric5 xa xb xc xd xe xf xg xh

pub returns-clause-entries : goal.returns-clause-entries
returns-clause-entries c =
    let xa = to_z w128 (of_z w128 c.entry-a.result) in
    let xb = to_z w128 (of_z w128 c.entry-b.result) in
    let xc = to_z w128 (of_z w128 c.entry-c.result) in
    let xd = to_z w128 (of_z w128 c.entry-d.result) in
    let xe = to_z w128 (of_z w128 c.entry-e.result) in
    let xf = to_z w128 (of_z w128 c.entry-f.result) in
    let xg = to_z w128 (of_z w128 c.entry-g.result) in
    let xh = to_z w128 (of_z w128 c.entry-h.result) in
    entries5 (2 ^ 121) xa xb xc xd xe xf xg xh
    (kept c.entry-a.result c.entry-a.ensures)
    (kept c.entry-b.result c.entry-b.ensures)
    (kept c.entry-c.result c.entry-c.ensures)
    (kept c.entry-d.result c.entry-d.ensures)
    (kept c.entry-e.result c.entry-e.ensures)
    (kept c.entry-f.result c.entry-f.ensures)
    (kept c.entry-g.result c.entry-g.ensures)
    (kept c.entry-h.result c.entry-h.ensures)
