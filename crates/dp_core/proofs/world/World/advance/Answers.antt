use Rattle.std.proofs.Common.{◌∙◌, ◌+◌, ◌≡◌, List, Some, ap, arith, length, subst, sym, ℕ}
use Rattle.std.specs.Prelude.{slice_get}
use Rattle.dp_exchange.specs.ComputerState.{ComputerState, after_run, after_wire}
use Rattle.dp_plant.specs.declared.plant.Plant.{Plant}
use Rattle.dp_voter.specs.VoterState.{begun}
use Rattle.dp_core.specs.WorldState.{WorldState}
use Rattle.dp_core.specs.WorldView.{IsInStep, world_of}
use Rattle.dp_core.proofs.InStep.{advanced-in_step, advanced-of_plant}
use Rattle.dp_core.proofs.Lists.{map-length}
use Rattle.dp_core.proofs.Worlds.{advance-is, advanced, advanced-represents}
use Rattle.dp_core.proofs.world.World.advance.Goals as goal

pub invariant_of-self : goal.invariant_of-self
invariant_of-self c =
    let i = c.self.inside in
    let f = c.args.f.now in
    let was = c.self.invariant in
    let cycle : f.cycle ≡ i.cycles_begun = c.requires.next ∙ sym (ap (λ (w : WorldState). w.cycles_begun) c.self.view_is) in
    let less = c.requires.within.within.cycle in
    record {
      three = ap length c.advance_all.ensures ∙ (map-length i.computers (λ x. after_run (after_wire x f)) ∙ was.three);
      voters = ap length c.begin_all.ensures ∙ (map-length i.voters.items (λ v. begun v f.cycle) ∙ was.voters);
      in_step = subst (λ (xs : List ComputerState). (k : ℕ) (z : ComputerState) → slice_get xs k ≡ Some z → IsInStep (i.cycles_begun + 1) z) (sym c.advance_all.ensures) (advanced-in_step i.computers i.cycles_begun f was.in_step);
      of_plant = subst (λ (xs : List ComputerState). (k : ℕ) (z : ComputerState) → slice_get xs k ≡ Some z → z.plant ≡ i.plant) (sym c.advance_all.ensures) (advanced-of_plant i.computers i.plant f was.of_plant);
      bounded = omega arith;
    }

pub returns-clause-represents : goal.returns-clause-represents
returns-clause-represents c = λ es r.
    let i = c.self.inside in
    let f = c.args.f.now in
    let cycle : f.cycle ≡ i.cycles_begun = c.requires.next ∙ sym (ap (λ (w : WorldState). w.cycles_begun) c.self.view_is) in
    let new = advance-is (world_of i) f c.advance_all.new.computers c.begin_all.new.voters.items c.self.invariant.three c.advance_all.ensures c.begin_all.ensures cycle in
    advanced-represents es c.args.self.now _ f (new ∙ ap (λ w. advanced w f) c.self.view_is) (c.requires.next, c.requires.within) r

pub advance_all-requires-clause-within : goal.advance_all-requires-clause-within
advance_all-requires-clause-within c = λ k x at.
    let groups = ap (λ (w : WorldState). w.plant.groups) c.self.view_is in
    rw (ap (λ (p : Plant). p.groups) (c.self.invariant.of_plant k x at), groups) c.requires.within
