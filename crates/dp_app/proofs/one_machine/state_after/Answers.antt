use Rattle.std.proofs.Common.{sym}
use Rattle.dp_app.proofs.OneRun.{state_is}
use Rattle.dp_app.proofs.one_machine.state_after.Goals as goal

pub returns-in-Ok-run_record-clause-ok : goal.returns-in-Ok-run_record-clause-ok
returns-in-Ok-run_record-clause-ok g c =
    state_is (g.F.Shelf.files c.args.shelf.now) c.args.name.now c.args.plant.now.plant c.run_record.new.machine c.state.result c.in-Ok-run_record.end c.in-Ok-run_record.ensures.runs
    (sym c.in-None.ensures.value) c.state.ensures.value
