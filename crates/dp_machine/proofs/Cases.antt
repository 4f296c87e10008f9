-- The forces by a plant's cases.
use Rattle.std.proofs.Common.{◌≡◌, ℕ, List, ap, ℤ}
use Rattle.dp_plant.specs.declared.plant.Plant.{Plant}
use Rattle.dp_alloc.specs.Cases.{CasesValue, case_in, cases_of}
use Rattle.dp_alloc.specs.Thrust.{forces_of}
use Rattle.dp_machine.specs.Step.{forces_by}

-- the forces of a plant's cases
pub forces_are : (p : Plant) (v : CasesValue) (lost : ℕ) (demand : List ℤ) → v ≡ cases_of p → forces_of v.thrusters (case_in v lost) demand ≡ forces_by p lost demand
unfolding forces_by
forces_are p v lost demand e = ap (λ (x : CasesValue). forces_of x.thrusters (case_in x lost) demand) e
