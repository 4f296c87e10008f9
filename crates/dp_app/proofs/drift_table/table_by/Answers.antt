use Rattle.std.proofs.Common.{◌≡◌, ◌*◌, ◌++◌, ◌<◌, ◌^◌, ◌∙◌, ap, pos, sym, arith, rules}
use Rattle.dp_plant.proofs.PlantFacts.{plant_groups}
use Rattle.dp_plant.specs.{is_lost}
use Rattle.dp_app.proofs.DriftTables.{count_more, count_same, lines_more, lines_same, not_lost, whole_table}
use Rattle.dp_app.proofs.drift_table.table_by.Goals.{then-is_ready, else-is_ready}
use Rattle.dp_app.proofs.drift_table.table_by.Goals as goal

pub is_ready-requires : goal.is_ready-requires
is_ready-requires c = omega (arith, plant_groups c.args.plant.now)

pub drift_for-drift-requires-clause-ready : goal.drift_for-drift-requires-clause-ready
drift_for-drift-requires-clause-ready c =
    not_lost (is_lost c.args.lost c.loop-group.group) (sym c.is_ready.ensures ∙ c.if-is_ready.true)

pub drift_for-drift-requires-clause-group : goal.drift_for-drift-requires-clause-group
drift_for-drift-requires-clause-group c = omega (arith, plant_groups c.args.plant.now, c.loop-group-test.true)

pub append_line-requires : goal.append_line-requires
append_line-requires c = omega (arith, plant_groups c.args.plant.now, c.loop-group.invariant.room)

pub loop-group-preserved : goal.loop-group-preserved
loop-group-preserved c =
    let p = c.args.plant.now in
    let lost = c.args.lost in
    let mean = c.args.mean in
    let limit = pos (c.args.limit * 10 ^ 6) in
    let cycles = c.args.cycles in
    let n = c.loop-group.group in
    let inv = c.loop-group.invariant in
    elim c.if-is_ready.branch [
      | then-is_ready w ↦
          (let is = sym c.is_ready.ensures ∙ w.if-is_ready.true in
          rw (w.text-is, w.count-is) (record {
            lines = lines_more p lost mean limit cycles n _ _ inv.lines is (search (rules, w.append_line.ensures.text));
            many = count_more p lost mean limit cycles n _ inv.many is;
            room = omega (arith, inv.room, w.append_line.ensures.len);
            few = omega (arith, inv.few);
          }))
      | else-is_ready w ↦
          (let is = sym c.is_ready.ensures ∙ w.if-is_ready.false in
          rw (w.text-is, w.count-is) (record {
            lines = lines_same p lost mean limit cycles n _ inv.lines is;
            many = count_same p lost mean limit cycles n _ inv.many is;
            room = omega (arith, inv.room);
            few = omega (arith, inv.few);
          }))
    ]

pub append_last-requires : goal.append_last-requires
append_last-requires c = omega (arith, plant_groups c.args.plant.now, c.loop-group.invariant.room)

pub returns : goal.returns
returns c =
    let p = c.args.plant.now in
    whole_table p c.args.lost c.args.mean (pos (c.args.limit * 10 ^ 6)) c.args.cycles c.loop-group.group c.loop-group.count c.loop-group.text.items _
    (omega (arith, c.loop-group-test.false, c.loop-group.auto.group-end)) c.loop-group.invariant.lines c.loop-group.invariant.many c.append_last.ensures
