use Rattle.std.proofs.Common.{◌≡◌, ◌+◌, ℕ, ℤ, List, All, None, drop, sym, ◌∙◌, ap, subst}
use Rattle.dp_machine.specs.declared.estimates.Estimates.{Estimates}
use Rattle.dp_machine.specs.Parts.{AreDemands, AreReferences}
use Rattle.dp_trig.specs.SinePair.{pair_of}
use Rattle.dp_machine.specs.Machine.{MachineValue}
use Rattle.dp_machine.specs.Step.{alarms_by, step_at}
use Rattle.dp_machine.proofs.Cases.{forces_are}
use Rattle.dp_machine.proofs.Inside.{demands_go, last_is, references_go}
use Rattle.dp_machine.proofs.Masks.{sensed_low}
use Rattle.dp_machine.proofs.Steps.{step_is}
use Rattle.dp_machine.proofs.machine.Machine.step_to.Goals as goal

pub invariant_of-self : goal.invariant_of-self
invariant_of-self c =
    let count : c.self.inside.estimates.count + 1 ≡ c.of-cycle.new.now.count = sym (ap (λ (x : Estimates). x.count) c.of-cycle.ensures.next) in
    record {
      sound = c.self.invariant.sound;
      accepted = c.self.invariant.accepted;
      cases = c.self.invariant.cases;
      estimates = c.of-cycle.ensures.within;
      references = subst (λ (n : ℕ). AreReferences c.self.inside.plant n c.take.new.self) count
          (references_go c.self.inside.plant c.self.inside.estimates.count c.self.inside.references c.take.new.self c.args.f.now.pos c.self.invariant.references c.take.ensures);
      demands = subst (λ (n : ℕ). AreDemands n c.add.new.ring) count
          (demands_go c.self.inside.estimates.count c.self.inside.demands c.add.new.ring c.of-cycle.result.demand c.self.invariant.demands c.of-cycle.ensures.whole c.add.ensures);
    }

pub returns-clause-issued : goal.returns-clause-issued
returns-clause-issued c =
    ap (λ (m : MachineValue). step_at m.plant c.args.at.now m.state c.args.f.now) (sym c.self.view_is)
    ∙ step_is c.self.inside.plant c.args.at.now c.self.inside.estimates c.self.inside.references c.take.new.self c.self.inside.demands.items c.args.f.now
    c.self.invariant.references c.take.ensures c.of-sensed.result c.pair-pair.result c.verdicts-verdicts.result c.measured_by-place.result
    c.of-sensed.ensures.value (c.pair-pair.ensures.value ∙ ap pair_of c.unwrap_or.ensures) c.verdicts-verdicts.ensures.value c.measured_by-place.ensures.value
    c.of-cycle.result.demand c.share_out.new.forces.items c.of-cycle.result.limited c.add.new.ring.items c.alarms_of.result c.of-cycle.new.now
    c.of-cycle.ensures.demand c.of-cycle.ensures.limited c.of-cycle.ensures.next (c.share_out.ensures ∙ forces_are c.self.inside.plant c.self.inside.cases c.of-sensed.result.lost c.of-cycle.result.demand c.self.invariant.cases)
    (last_is c.self.inside.demands c.add.new.ring c.of-cycle.result.demand c.self.invariant.demands.capacity c.add.ensures)
    (c.alarms_of.ensures ∙ ap (λ (m : List ℤ). alarms_by c.self.inside.plant c.verdicts-verdicts.result c.args.f.now c.measured_by-place.result c.of-sensed.result c.of-cycle.result.limited m) c.mean-mean.ensures)

pub of-cycle-requires-clause-lost : goal.of-cycle-requires-clause-lost
of-cycle-requires-clause-lost c =
    let x = c.self.inside.estimates in
    let lacking = subst (λ (m : MachineValue). All (λ s. s.last ≡ None) (drop m.plant.groups c.args.f.now.group)) (sym c.self.view_is) c.requires.within.lacking in
    sensed_low c.self.inside.plant.groups x.heading x.wind x.lost c.args.f.now c.of-sensed.result c.self.invariant.estimates.lost lacking c.of-sensed.ensures.value

pub mean-mean-requires-clause-within : goal.mean-mean-requires-clause-within
mean-mean-requires-clause-within c =
    (demands_go c.self.inside.estimates.count c.self.inside.demands c.add.new.ring c.of-cycle.result.demand c.self.invariant.demands c.of-cycle.ensures.whole c.add.ensures).within
