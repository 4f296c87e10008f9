-- What holds of each issue.
use Rattle.std.proofs.Common.{◌≡◌, ℕ, List, length, Option, Some, None, refl, ◌∙◌, ℤ, pos}
use Rattle.std.proofs.lemmas.List.{length-map}
use Rattle.dp_plant.specs.declared.plant.Plant.{Plant}
use Rattle.dp_plant.specs.declared.thrusters.RawCase.{RawCase}
use Rattle.dp_plant.proofs.PlantFacts.{case_within}
use Rattle.dp_plant.specs.Cases.{case_of}
use Rattle.dp_alloc.specs.Thrust.{forces_of, thrust_of}
use Rattle.dp_machine.specs.Laws.{IssuesAreOfTheirCycle, IssuesHaveAForceForEachThruster}
use Rattle.dp_machine.specs.Step.{forces_by, plane_in, sensed_of, step_at, whole_demand, yaw_in}

pub of_their_cycle : IssuesAreOfTheirCycle
unfolding step_at
of_their_cycle p at s f = (refl, refl)

forces_count : (p : Plant) (lost : ℕ) (demand : List ℤ) (o : Option RawCase) → case_of p lost ≡ o
    → length (forces_of p.thrusters.items o demand) ≡ length p.thrusters.items
forces_count p lost demand None e = length-map p.thrusters.items (λ t. pos 0)
forces_count p lost demand (Some c) e = length-map c.b.items (thrust_of demand) ∙ (case_within p lost c e).rows

forces_by-count : (p : Plant) (lost : ℕ) (demand : List ℤ) → length (forces_by p lost demand) ≡ length p.thrusters.items
unfolding forces_by
forces_by-count p lost demand = forces_count p lost demand (case_of p lost) refl

pub force_for_each : IssuesHaveAForceForEachThruster
unfolding step_at
force_for_each p at s f =
    let h = sensed_of s f in
    forces_by-count p h.lost (whole_demand (plane_in p at s f h) (yaw_in p at s h))
