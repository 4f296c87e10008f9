use Rattle.std.proofs.Common.{rules, to_z, of_z, w64}
use Rattle.dp_app.proofs.DriftTables.{surge_within, sway_within}
use Rattle.dp_app.proofs.drift_table.mean_of.Goals as goal

pub returns-clause-surge : goal.returns-clause-surge
returns-clause-surge c = surge_within c.args.demands.now c.requires.some c.requires.within (to_z w64 (of_z w64 c.mean_on-surge.result)) (search rules)

pub returns-clause-sway : goal.returns-clause-sway
returns-clause-sway c = sway_within c.args.demands.now c.requires.some c.requires.within (to_z w64 (of_z w64 c.mean_on-sway.result)) (search rules)
