use Rattle.std.proofs.Common.{ap, subst, sym, ◌∙◌}
use Rattle.dp_plant.specs.declared.plant.Plant.{Plant}
use Rattle.dp_plant.specs.SoundPlant.{IsSoundPlant}
use Rattle.dp_alloc.specs.Cases.{cases_of}
use Rattle.dp_cert.specs.declared.accepted.Accepted.{Accepted}
use Rattle.dp_machine.specs.Accepted.{IsAcceptedPlant}
use Rattle.dp_machine.specs.Parts.{AreEstimates, AreReferences}
use Rattle.dp_plant.proofs.PlantFacts.{plant_references}
use Rattle.dp_machine.proofs.Sounds.{sound_plant}
use Rattle.dp_machine.proofs.Values.{count_new, demands_new, new_is, references_new}
use Rattle.dp_machine.proofs.machine.Machine.new.Goals as goal

pub invariant_of-result : goal.invariant_of-result
invariant_of-result c =
    let none = count_new c.args.plant.now c.first.result c.first.ensures.value in
    let refs = references_new c.args.plant.now c.first.result.count c.in_ok-new.field-0 none c.in_ok-new.ensures.first c.in_ok-new.ensures.second c.in_ok-new.ensures.third in
    record {
      sound = subst IsSoundPlant (sym c.copy.ensures) (sound_plant c.args.plant.now c.args.accepted.now c.requires);
      accepted = subst (λ (p : Plant). IsAcceptedPlant p c.copy-2.result) (sym c.copy.ensures)
          (subst (λ (a : Accepted). IsAcceptedPlant c.args.plant.now a) (sym c.copy-2.ensures) c.requires);
      cases = c.in_ok-of.ensures ∙ ap cases_of (sym c.copy.ensures);
      estimates = subst (λ (p : Plant). AreEstimates p c.first.result) (sym c.copy.ensures) c.first.ensures.within;
      references = subst (λ (p : Plant). AreReferences p c.first.result.count c.in_ok-new.field-0) (sym c.copy.ensures) refs;
      demands = demands_new c.first.result.count c.in_ok-ring.field-0 none c.in_ok-ring.ensures;
    }

pub returns : goal.returns
returns c = new_is c.args.plant.now c.copy.result c.first.result c.in_ok-new.field-0 c.in_ok-ring.field-0.items c.copy.ensures c.first.ensures.value
    c.in_ok-new.ensures.first c.in_ok-new.ensures.second c.in_ok-new.ensures.third (ap (λ b. b.items) c.in_ok-ring.ensures)

pub first-requires-clause-plant : goal.first-requires-clause-plant
first-requires-clause-plant c = sound_plant c.args.plant.now c.args.accepted.now c.requires

pub new-requires : goal.new-requires
new-requires c = plant_references c.args.plant.now
