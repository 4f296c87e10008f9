use Rattle.dp_plant.specs.{seen}
use Rattle.dp_plant.proofs.FilePlants.{three_within}
use Rattle.dp_plant.proofs.file.plant_in.Goals as goal

pub invariant_of-result : goal.invariant_of-result
invariant_of-result c = record {
  within = three_within (seen c.args.document) c.in_ok-version.field-0 c.in_ok-first.field-0 c.in_ok-wind.wind c.in_ok-thrusters.thrusters.items c.in_ok-cases.cases.items c.in_ok-gains.gains c.in_ok-cert.cert _
      c.in_ok-version.ensures.exact c.in_ok-first.ensures c.in_ok-wind.ensures c.in_ok-thrusters.ensures (rw c.len.ensures.value at c.in_ok-cases.ensures) c.in_ok-gains.ensures c.in_ok-cert.ensures;
}
