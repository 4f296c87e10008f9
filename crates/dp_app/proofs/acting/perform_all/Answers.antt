use Rattle.std.proofs.Common.{List, sym, subst, arith}
use Rattle.std.proofs.lemmas.List.{take_all}
use Rattle.dp_core.specs.declared.event.Event.{Event}
use Rattle.dp_core.specs.Represents.{Represents}
use Rattle.dp_script.specs.declared.act.Act.{Act}
use Rattle.dp_script.specs.TimedActs.{acts_at}
use Rattle.dp_app.specs.Acting.{events_of_acts}
use Rattle.dp_app.proofs.Plays.{acted_next, acted_none}
use Rattle.dp_app.proofs.acting.perform_all.Goals as goal

pub loop-i-init : goal.loop-i-init
loop-i-init c = record {
  represents = λ es r. subst (λ (l : List Event). Represents l c.args.world.now) (sym (acted_none c.args.plant.now c.args.cycle es)) r;
  plant = c.requires;
}

pub loop-i-preserved : goal.loop-i-preserved
loop-i-preserved c =
    let acts = acts_at c.args.cycle c.args.script.now in
    record {
      represents = λ es r. subst (λ (l : List Event). Represents l c.perform.new.world) (sym (acted_next c.args.plant.now c.args.cycle acts c.loop-i.i _ es c.act.ensures.value))
          (c.perform.ensures.represents _ (c.loop-i.invariant.represents es r));
      plant = c.perform.ensures.plant;
    }

pub returns-clause-represents : goal.returns-clause-represents
returns-clause-represents c =
    let acts = acts_at c.args.cycle c.args.script.now in
    λ es r. subst (λ (l : List Act). Represents (events_of_acts c.args.plant.now c.args.cycle l es) c.loop-i.world) (take_all _ acts (omega arith)) (c.loop-i.invariant.represents es r)
