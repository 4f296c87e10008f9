use Rattle.dp_plant.proofs.PlantFacts.{plant_within}
use Rattle.dp_alloc.proofs.conditions.case_fault.Goals as goal

pub first_off-requires-clause-mass : goal.first_off-requires-clause-mass
first_off-requires-clause-mass c = (plant_within c.args.plant.now).mass

pub first_off-requires-clause-tol : goal.first_off-requires-clause-tol
first_off-requires-clause-tol c = (plant_within c.args.plant.now).tol
