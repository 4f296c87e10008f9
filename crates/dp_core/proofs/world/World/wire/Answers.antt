use Rattle.std.proofs.Common.{◌∙◌, ◌+◌, ◌≡◌, List, Some, ap, arith, length, map, subst, sym, ℕ}
use Rattle.std.specs.Prelude.{slice_get}
use Rattle.dp_exchange.specs.ComputerState.{ComputerState, after_wire}
use Rattle.dp_core.specs.WorldView.{IsInStep}
use Rattle.dp_plant.specs.declared.plant.Plant.{Plant}
use Rattle.dp_voter.specs.VoterState.{begun}
use Rattle.dp_core.proofs.InStep.{all-in_step, all-of_plant}
use Rattle.dp_core.proofs.Lists.{map-length}
use Rattle.dp_exchange.specs.ComputerState.{wire_answer}
use Rattle.dp_core.specs.WorldState.{WorldState, after}
use Rattle.dp_core.specs.WorldView.{world_of}
use Rattle.dp_core.specs.declared.event.Event.TheVariants.{Wire}
use Rattle.dp_core.proofs.Worlds.{went-on, wire-answers, wire-is}
use Rattle.dp_core.proofs.world.World.wire.Goals as goal

pub invariant_of-self : goal.invariant_of-self
invariant_of-self c =
    let i = c.self.inside in
    let was = c.self.invariant in
    let view = c.self.view_is in
    let cycle : c.args.f.now.cycle ≡ i.cycles_begun = c.requires.next ∙ sym (ap (λ (w : WorldState). w.cycles_begun) view) in
    let less = c.requires.within.within.cycle in
    record {
      three = ap length c.wire_all-answers.ensures.new ∙ (map-length i.computers (λ x. after_wire x c.args.f.now) ∙ was.three);
      voters = ap length c.begin_all.ensures ∙ (map-length i.voters.items (λ v. begun v c.args.f.now.cycle) ∙ was.voters);
      in_step = subst (λ (xs : List ComputerState). (k : ℕ) (z : ComputerState) → slice_get xs k ≡ Some z → IsInStep (i.cycles_begun + 1) z) (sym c.wire_all-answers.ensures.new) (all-in_step i.computers i.cycles_begun c.args.f.now was.in_step);
      of_plant = subst (λ (xs : List ComputerState). (k : ℕ) (z : ComputerState) → slice_get xs k ≡ Some z → z.plant ≡ i.plant) (sym c.wire_all-answers.ensures.new) (all-of_plant i.computers i.plant c.args.f.now was.of_plant);
      bounded = omega arith;
    }

pub returns-clause-represents : goal.returns-clause-represents
returns-clause-represents c = λ es r.
    let i = c.self.inside in
    let cycle : c.args.f.now.cycle ≡ i.cycles_begun = c.requires.next ∙ sym (ap (λ (w : WorldState). w.cycles_begun) c.self.view_is) in
    let new = wire-is (world_of i) c.args.f.now c.wire_all-answers.new.computers c.begin_all.new.voters.items c.wire_all-answers.ensures.new c.begin_all.ensures cycle in
    went-on es c.args.self.now _ (Wire c.args.f.now) (new ∙ ap (λ w. after w (Wire c.args.f.now)) c.self.view_is) (c.requires.next, c.requires.within) r

pub returns-clause-answers : goal.returns-clause-answers
returns-clause-answers c = λ es r.
    c.wire_all-answers.ensures.answers ∙ (ap (λ (w : WorldState). map wire_answer w.computers) c.self.view_is ∙ wire-answers es c.args.self.now r)

pub wire_all-answers-requires-clause-within : goal.wire_all-answers-requires-clause-within
wire_all-answers-requires-clause-within c = λ k x at.
    let groups = ap (λ (w : WorldState). w.plant.groups) c.self.view_is in
    rw (ap (λ (p : Plant). p.groups) (c.self.invariant.of_plant k x at), groups) c.requires.within
