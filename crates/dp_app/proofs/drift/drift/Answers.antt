use Rattle.std.proofs.Common.{◌≡◌, ◌∷◌, ◌∙◌, [], ℕ, List, Err, Some, ap, refl, subst}
use Rattle.dp_machine.proofs.Sounds.{sound_plant}
use Rattle.dp_machine.specs.declared.state.State.{State}
use Rattle.dp_shell.proofs.Taken.{appends_none}
use Rattle.dp_app.specs.Drifts.{drift_text, drift_text_of}
use Rattle.dp_app.specs.Outcome.{to_drift}
use Rattle.dp_app.specs.Troubles.{plant_fault}
use Rattle.dp_app.specs.Words.{drift, plant_file, record_file}
use Rattle.dp_app.specs.Written.{HasWritten, NoReadFailed}
use Rattle.dp_app.proofs.Files.{plant_refused, reads_first}
use Rattle.dp_app.proofs.Running.{refused_runs, told_runs}
use Rattle.dp_app.proofs.WholeRecords.{record_refused, record_told}
use Rattle.dp_app.proofs.drift.drift.Goals as goal

pub table_of-requires-clause-damp_low : goal.table_of-requires-clause-damp_low
table_of-requires-clause-damp_low g c = (sound_plant c.in-Ok.plant.plant c.in-Ok.plant.accepted c.in-Ok.ensures.accepted).observer.damp.low

pub table_of-requires-clause-damp_high : goal.table_of-requires-clause-damp_high
table_of-requires-clause-damp_high g c = (sound_plant c.in-Ok.plant.plant c.in-Ok.plant.accepted c.in-Ok.ensures.accepted).observer.damp.high

pub returns-in-Ok-state_after : goal.returns-in-Ok-state_after
returns-in-Ok-state_after g c =
    let S = g.F.Shelf in
    let K = g.K.Sink in
    let name = c.args.plant_name.now in
    let record_name = c.args.record_name.now in
    let limit = c.args.limit in
    let cycles = c.args.cycles in
    let old = c.args.shelf.now in
    let first = c.accept_plant.new.shelf in
    let new = c.state_after.new.shelf in
    let start = K.taken c.args.out.now in
    let after = K.taken c.write_last.new.out in
    let p = c.in-Ok.plant.plant in
    let found = c.in-Ok-state_after.ensures.ok in
    let fs = found.0 in
    let text : c.deref.result.now ≡ drift_text p limit cycles fs =
    rw c.deref.ensures.0 (c.table_of.ensures ∙ ap (λ (s : State). drift_text_of p s limit cycles) found.2) in
    told_runs S.files S.apart S.faults K.taken K.faults (Some (drift name record_name limit cycles)) old new c.args.out.now c.write_last.new.out c.write_last.result
    (to_drift p limit cycles fs)
    (record_told S.files S.apart S.faults (drift name record_name limit cycles) name record_name (λ q. to_drift q limit cycles) refl refl old first new p
    c.in-Ok.ensures.ok c.in-Ok.ensures.reads c.in-Ok-state_after.ensures.reads fs found.1 refl)
    c.write_last.ensures.answers
    (subst (λ (l : List ℕ). HasWritten NoReadFailed [] l c.write_last.result start after) text (c.write_last.ensures.written start [] (appends_none start)))
    c.write_last.ensures.write

pub returns-in-Err-state_after : goal.returns-in-Err-state_after
returns-in-Err-state_after g c =
    let S = g.F.Shelf in
    let K = g.K.Sink in
    let name = c.args.plant_name.now in
    let record_name = c.args.record_name.now in
    let limit = c.args.limit in
    let cycles = c.args.cycles in
    let old = c.args.shelf.now in
    let first = c.accept_plant.new.shelf in
    let new = c.state_after.new.shelf in
    let fault = c.in-Err-state_after.fault in
    refused_runs S.files S.apart S.faults K.taken K.faults (Some (drift name record_name limit cycles)) old new c.args.out.now c.announce.new.out c.announce.result fault fault refl
    (record_refused S.files S.apart S.faults (drift name record_name limit cycles) name record_name (λ q. to_drift q limit cycles) refl refl old first new c.in-Ok.plant.plant
    c.in-Ok.ensures.ok c.in-Ok.ensures.reads c.in-Err-state_after.ensures.reads fault c.in-Err-state_after.ensures.err)
    c.announce.ensures.ends c.announce.ensures.write

pub returns-in-Err : goal.returns-in-Err
returns-in-Err g c =
    let S = g.F.Shelf in
    let K = g.K.Sink in
    let name = c.args.plant_name.now in
    let command = drift name c.args.record_name.now c.args.limit c.args.cycles in
    let rest = record_file c.args.record_name.now ∷ [] in
    let old = c.args.shelf.now in
    let new = c.accept_plant.new.shelf in
    let why = c.in-Err.why in
    refused_runs S.files S.apart S.faults K.taken K.faults (Some command) old new c.args.out.now c.announce-in-Err.new.out c.announce-in-Err.result (plant_fault why) c.of_plant.result
    c.of_plant.ensures
    (plant_refused S.files S.apart S.faults old command name _ _ refl new rest refl why c.in-Err.ensures.err (λ e. c.in-Err.ensures.failed (ap Err e))
    (reads_first S.files S.apart S.faults (plant_file name) rest old new c.in-Err.ensures.reads))
    c.announce-in-Err.ensures.ends c.announce-in-Err.ensures.write
