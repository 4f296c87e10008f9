use Rattle.dp_app.proofs.OneRun.{runs_none}
use Rattle.dp_app.proofs.PlantFacts.{few_groups, origin_within, some_cycle}
use Rattle.dp_app.proofs.one_machine.run_record.Goals as goal

pub new-reader-requires-clause-origin : goal.new-reader-requires-clause-origin
new-reader-requires-clause-origin g c = origin_within c.args.plant.now

pub new-reader-requires-clause-groups : goal.new-reader-requires-clause-groups
new-reader-requires-clause-groups g c = few_groups c.args.plant.now

pub new-reader-requires-clause-cycle : goal.new-reader-requires-clause-cycle
new-reader-requires-clause-cycle g c = some_cycle c.args.plant.now

pub run_frames-requires-clause-run : goal.run_frames-requires-clause-run
run_frames-requires-clause-run g c = runs_none c.args.plant.now c.args.machine.now c.requires
