use Rattle.std.proofs.Common.{[], Some, ap, refl, Err}
use Rattle.dp_app.specs.Outcome.{to_check}
use Rattle.dp_app.specs.Troubles.{plant_fault}
use Rattle.dp_app.specs.Words.{check, plant_file}
use Rattle.dp_app.proofs.Files.{plant_refused, reads_first, task_told}
use Rattle.dp_app.proofs.Running.{refused_runs, told_runs}
use Rattle.dp_app.proofs.check.check.Goals as goal

pub returns-in-Ok : goal.returns-in-Ok
returns-in-Ok g c =
    let S = g.F.Shelf in
    let K = g.K.Sink in
    let name = c.args.name.now in
    let old = c.args.shelf.now in
    let new = c.accept_plant.new.shelf in
    let p = c.in-Ok.plant.plant in
    told_runs S.files S.apart S.faults K.taken K.faults (Some (check name)) old new c.args.out.now c.write_check.new.out c.write_check.result (to_check p)
    (task_told S.files S.apart S.faults old (check name) name _ _ refl new p (to_check p) c.in-Ok.ensures.ok (λ told. refl) refl
    (reads_first S.files S.apart S.faults (plant_file name) [] old new c.in-Ok.ensures.reads))
    c.write_check.ensures.answers c.write_check.ensures.written c.write_check.ensures.write

pub returns-in-Err : goal.returns-in-Err
returns-in-Err g c =
    let S = g.F.Shelf in
    let K = g.K.Sink in
    let name = c.args.name.now in
    let old = c.args.shelf.now in
    let new = c.accept_plant.new.shelf in
    let why = c.in-Err.why in
    refused_runs S.files S.apart S.faults K.taken K.faults (Some (check name)) old new c.args.out.now c.announce.new.out c.announce.result (plant_fault why) c.of_plant.result
    c.of_plant.ensures
    (plant_refused S.files S.apart S.faults old (check name) name _ _ refl new [] refl why c.in-Err.ensures.err (λ e. c.in-Err.ensures.failed (ap Err e))
    (reads_first S.files S.apart S.faults (plant_file name) [] old new c.in-Err.ensures.reads))
    c.announce.ensures.ends c.announce.ensures.write
