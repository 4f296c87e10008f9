use Rattle.std.proofs.Common.{◌≡◌, ◌∙◌, List, Some, ap, length, subst, sym, ℕ}
use Rattle.std.specs.Prelude.{slice_get}
use Rattle.dp_exchange.specs.ComputerState.{ComputerState}
use Rattle.dp_core.specs.WorldState.{WorldState, change_at, text_answer, with_text}
use Rattle.dp_core.specs.WorldView.{IsInStep, world_of}
use Rattle.dp_core.specs.declared.event.Event.TheVariants.{Tell}
use Rattle.dp_core.proofs.InStep.{changed-keeps, text-in_step, text-plant}
use Rattle.dp_core.proofs.Lists.{changed-length}
use Rattle.dp_core.proofs.Worlds.{tell-answered, tell-is, went-on}
use Rattle.dp_core.proofs.world.World.tell.Goals as goal

pub invariant_of-self : goal.invariant_of-self
invariant_of-self c =
    let i = c.self.inside in
    let was = c.self.invariant in
    let a = c.args.from in
    let y = slice_get i.computers a in
    let new = c.tell_between.ensures.new in
    record {
      three = ap length new ∙ (changed-length i.computers c.args.to (with_text a y) ∙ was.three);
      voters = was.voters;
      in_step = subst (λ (xs : List ComputerState). (k : ℕ) (z : ComputerState) → slice_get xs k ≡ Some z → IsInStep i.cycles_begun z) (sym new) (changed-keeps (IsInStep i.cycles_begun) i.computers c.args.to (with_text a y) was.in_step (λ z s. text-in_step i.cycles_begun a y z s));
      of_plant = subst (λ (xs : List ComputerState). (k : ℕ) (z : ComputerState) → slice_get xs k ≡ Some z → z.plant ≡ i.plant) (sym new) (changed-keeps (λ (z : ComputerState). z.plant ≡ i.plant) i.computers c.args.to (with_text a y) was.of_plant (λ z s. text-plant a y z ∙ s));
      bounded = was.bounded;
    }

pub returns-clause-represents : goal.returns-clause-represents
returns-clause-represents c = λ es r.
    let i = c.self.inside in
    let now = c.args.self.now in
    let same = ap (λ (w : WorldState). w.computers) c.self.view_is in
    let new = ap (λ ws. record (world_of i) { computers = ws }) c.tell_between.ensures.new
    ∙ ap (λ (w : WorldState). record w { computers = change_at w.computers c.args.to (with_text c.args.from (slice_get w.computers c.args.from)) }) c.self.view_is in
    went-on es now _ (Tell c.args.from c.args.to)
    (new ∙ tell-is es now c.args.from c.args.to c.requires.from c.requires.to r (λ y at. c.tell_between.ensures.read y (ap (λ ws. slice_get ws c.args.from) same ∙ at)))
    (c.requires.from, (c.requires.to, c.requires.two)) r

pub returns-clause-answer : goal.returns-clause-answer
returns-clause-answer c = λ es r.
    let now = c.args.self.now in
    let same = ap (λ (w : WorldState). w.computers) c.self.view_is in
    c.tell_between.ensures.answer
    ∙ (ap (λ ws. text_answer c.args.from (slice_get ws c.args.from) (slice_get ws c.args.to)) same
    ∙ tell-answered es now c.args.from c.args.to c.requires.from c.requires.to r (λ y at. c.tell_between.ensures.read y (ap (λ ws. slice_get ws c.args.from) same ∙ at)))
