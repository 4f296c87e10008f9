use Rattle.std.proofs.Common.{List, ◌∷◌, sym, subst, refl}
use Rattle.dp_core.specs.declared.event.Event.TheVariants.{Wire}
use Rattle.dp_core.specs.Represents.{Represents}
use Rattle.dp_script.specs.declared.act.Act.{Act}
use Rattle.dp_app.specs.Acting.{events_of_acts}
use Rattle.dp_script.proofs.Spans.{acts_none}
use Rattle.dp_app.proofs.acting.begin_cycle.Goals as goal

pub returns-then-is_usual-clause-represents : goal.returns-then-is_usual-clause-represents
returns-then-is_usual-clause-represents c = λ es r.
    let f = c.args.frame.now in
    subst (λ (l : List Act). Represents (events_of_acts c.args.plant.now f.cycle l (Wire f ∷ es)) c.begin_usual.new.world)
    (sym (acts_none c.args.script.now _ f.cycle refl (sym c.if-is_usual.ensures))) (c.begin_usual.ensures.represents es r)

pub returns-else-is_usual-clause-represents : goal.returns-else-is_usual-clause-represents
returns-else-is_usual-clause-represents c = λ es r. c.perform_all.ensures.represents _ (c.wire.ensures.represents es r)
