use Rattle.std.proofs.Common.{◌∙◌, ap, arith, length, refl, sym}
use Rattle.dp_plant.specs.declared.plant.Plant.{Plant}
use Rattle.dp_core.proofs.Worlds.{copied-represents, new-in_step, new-length, new-of_plant}
use Rattle.dp_core.proofs.PlantThrusters.{plant-ordered}
use Rattle.dp_core.proofs.world.World.new.Goals as goal

pub voters_of-requires : goal.voters_of-requires
voters_of-requires c = plant-ordered c.args.plant.now

pub invariant_of-result : goal.invariant_of-result
invariant_of-result c =
    let p = c.args.plant.now in
    record {
      three = refl;
      voters = new-length p c.voters_of.result.items c.voters_of.ensures ∙ ap (λ (q : Plant). length q.thrusters.items) (sym c.copy.ensures);
      of_plant = new-of_plant p c.copy.result c.in_ok-first.first c.in_ok-second.second c.in_ok-third.third c.copy.ensures c.in_ok-first.ensures c.in_ok-second.ensures c.in_ok-third.ensures;
      in_step = new-in_step p c.in_ok-first.first c.in_ok-second.second c.in_ok-third.third c.in_ok-first.ensures c.in_ok-second.ensures c.in_ok-third.ensures;
      bounded = omega arith;
    }

pub returns-clause-represents : goal.returns-clause-represents
returns-clause-represents c =
    copied-represents c.copy.result c.args.plant.now c.in_ok-first.first c.in_ok-second.second c.in_ok-third.third c.voters_of.result.items c.copy.ensures c.in_ok-first.ensures c.in_ok-second.ensures c.in_ok-third.ensures c.voters_of.ensures
