use Rattle.std.proofs.Common.{◌∙◌, sym, arith}
use Rattle.dp_plant.proofs.PlantFacts.{plant_groups}
use Rattle.dp_consequence.specs.{is_unsurvived}
use Rattle.dp_consequence.proofs.Numbers.{fails_more, passes_more}
use Rattle.dp_consequence.proofs.groups.check.Goals.{then-is_unsurvived, else-is_unsurvived}
use Rattle.dp_consequence.proofs.groups.check.Goals as goal

pub loop-group-preserved : goal.loop-group-preserved
loop-group-preserved c =
    let passes = is_unsurvived c.args.plant.now c.args.lost c.args.mean in
    elim c.if-is_unsurvived.branch [
      | then-is_unsurvived w ↦ rw w.groups-is (record {
        listed = passes_more passes c.loop-group.group _ _ c.loop-group.invariant.listed (sym c.is_unsurvived.ensures ∙ w.if-is_unsurvived.true) w.push.ensures.items;
        few = omega arith;
      })
      | else-is_unsurvived w ↦ rw w.groups-is (record {
        listed = fails_more passes c.loop-group.group _ c.loop-group.invariant.listed (sym c.is_unsurvived.ensures ∙ w.if-is_unsurvived.false);
        few = omega arith;
      })
    ]

pub is_unsurvived-requires : goal.is_unsurvived-requires
is_unsurvived-requires c = omega (arith, plant_groups c.args.plant.now)

pub push-requires : goal.push-requires
push-requires c = (omega arith, omega (arith, plant_groups c.args.plant.now))
