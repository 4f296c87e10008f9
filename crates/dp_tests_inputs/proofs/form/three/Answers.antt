use Rattle.std.proofs.Common.{to_z, of_z, ◌^◌}
use mir.Syntax.{w128}
use Rattle.dp_tests_inputs.proofs.Matrices.{kept, entries3}
use Rattle.dp_tests_inputs.proofs.form.three.Goals as goal

pub returns-clause-entries : goal.returns-clause-entries
returns-clause-entries c =
    let xa = to_z w128 (of_z w128 c.entry-a.result) in
    let xb = to_z w128 (of_z w128 c.entry-b.result) in
    let xc = to_z w128 (of_z w128 c.entry-c.result) in
    let xd = to_z w128 (of_z w128 c.entry-d.result) in
    let xe = to_z w128 (of_z w128 c.entry-e.result) in
    let xf = to_z w128 (of_z w128 c.entry-f.result) in
    entries3 (2 ^ 121) xa xb xc xd xe xf
    (kept c.entry-a.result c.entry-a.ensures)
    (kept c.entry-b.result c.entry-b.ensures)
    (kept c.entry-c.result c.entry-c.ensures)
    (kept c.entry-d.result c.entry-d.ensures)
    (kept c.entry-e.result c.entry-e.ensures)
    (kept c.entry-f.result c.entry-f.ensures)
