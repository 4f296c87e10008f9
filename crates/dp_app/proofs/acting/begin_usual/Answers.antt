use Rattle.std.proofs.Common.{◌≡◌, List, ◌∷◌, sym, subst, ◌∙◌}
use Rattle.dp_plant.specs.declared.plant.Plant.{Plant}
use Rattle.dp_core.specs.declared.event.Event.{Event}
use Rattle.dp_core.specs.declared.event.Event.TheVariants.{Run, Wire}
use Rattle.dp_core.specs.Represents.{Represents}
use Rattle.dp_core.specs.Several.{order_events}
use Rattle.dp_app.specs.Acting.{voters}
use Rattle.dp_app.proofs.Plays.{acted_usual}
use Rattle.dp_app.proofs.acting.begin_usual.Goals as goal

pub returns-clause-represents : goal.returns-clause-represents
returns-clause-represents c =
    let p = c.args.plant.now in
    let f = c.args.frame.now in
    let first : c.advance.new.self.plant ≡ p = c.advance.ensures.plant ∙ c.requires.plant in
    let second : c.order_all.new.self.plant ≡ p = c.order_all.ensures.plant ∙ first in
    let third : c.order_all-2.new.self.plant ≡ p = c.order_all-2.ensures.plant ∙ second in
    λ es r.
    let ran = Run 2 ∷ Run 1 ∷ Run 0 ∷ Wire f ∷ es in
    let one = subst (λ (q : Plant). Represents (order_events 0 (voters q) ran) c.order_all.new.self) first
    (c.order_all.ensures.represents ran (c.advance.ensures.represents es r)) in
    let two = subst (λ (q : Plant). Represents (order_events 1 (voters q) (order_events 0 (voters p) ran)) c.order_all-2.new.self) second
    (c.order_all-2.ensures.represents (order_events 0 (voters p) ran) one) in
    let three = subst (λ (q : Plant). Represents (order_events 2 (voters q) (order_events 1 (voters p) (order_events 0 (voters p) ran))) c.order_all-3.new.self) third
    (c.order_all-3.ensures.represents (order_events 1 (voters p) (order_events 0 (voters p) ran)) two) in
    subst (λ (l : List Event). Represents l c.order_all-3.new.self) (sym (acted_usual p f.cycle f es)) three
