use Rattle.std.proofs.Common.{Some, ap, refl}
use Rattle.dp_app.specs.declared.words.Command.{Command as Shown}
use Rattle.dp_app.specs.Outcome.{to_make}
use Rattle.dp_app.specs.Words.{check, drift, make, replay, shown_command, trial}
use Rattle.dp_app.proofs.Files.{alone_told}
use Rattle.dp_app.proofs.Running.{runs_as, told_runs}
use Rattle.dp_app.proofs.program.do_command.Goals as goal

pub returns-in-Check : goal.returns-in-Check
returns-in-Check g c =
    let S = g.F.Shelf in
    let K = g.K.Sink in
    runs_as S.files S.apart S.faults K.taken K.faults _ (Some (check c.in-Check.plant.now)) c.args.shelf.now c.check.new.shelf c.args.out.now c.check.new.out c.check.result
    (ap (λ (k : Shown). Some (shown_command k)) c.in-Check.is) c.check.ensures

pub returns-in-Make : goal.returns-in-Make
returns-in-Make g c =
    let S = g.F.Shelf in
    let K = g.K.Sink in
    let number = c.in-Make.number in
    runs_as S.files S.apart S.faults K.taken K.faults _ (Some (make number)) c.args.shelf.now c.args.shelf.now c.args.out.now c.make.new.out c.make.result
    (ap (λ (k : Shown). Some (shown_command k)) c.in-Make.is)
    (told_runs S.files S.apart S.faults K.taken K.faults (Some (make number)) c.args.shelf.now c.args.shelf.now c.args.out.now c.make.new.out c.make.result (to_make number)
    (alone_told S.files S.apart S.faults c.args.shelf.now (make number) (to_make number) refl refl refl) c.make.ensures.answers c.make.ensures.written c.make.ensures.write)

pub returns-in-Trial : goal.returns-in-Trial
returns-in-Trial g c =
    let S = g.F.Shelf in
    let K = g.K.Sink in
    runs_as S.files S.apart S.faults K.taken K.faults _ (Some (trial c.in-Trial.plant.now c.in-Trial.number)) c.args.shelf.now c.trial.new.shelf c.args.out.now c.trial.new.out
    c.trial.result (ap (λ (k : Shown). Some (shown_command k)) c.in-Trial.is) c.trial.ensures

pub returns-in-Replay : goal.returns-in-Replay
returns-in-Replay g c =
    let S = g.F.Shelf in
    let K = g.K.Sink in
    runs_as S.files S.apart S.faults K.taken K.faults _ (Some (replay c.in-Replay.plant.now c.in-Replay.record.now c.in-Replay.script.now)) c.args.shelf.now
    c.replay.new.shelf c.args.out.now c.replay.new.out c.replay.result (ap (λ (k : Shown). Some (shown_command k)) c.in-Replay.is) c.replay.ensures

pub returns-in-Drift : goal.returns-in-Drift
returns-in-Drift g c =
    let S = g.F.Shelf in
    let K = g.K.Sink in
    runs_as S.files S.apart S.faults K.taken K.faults _ (Some (drift c.in-Drift.plant.now c.in-Drift.record.now c.in-Drift.limit c.in-Drift.cycles)) c.args.shelf.now
    c.drift.new.shelf c.args.out.now c.drift.new.out c.drift.result (ap (λ (k : Shown). Some (shown_command k)) c.in-Drift.is) c.drift.ensures
